-- The eight kinds of records, in file order.
pub data Kind : Type 0 where
  Instructions Cases Sources Edges Handlers Routes Paths Steps : Kind
