-- How many records, instructions and entries there are: the counts of the sections.
-- Assumes nothing.
use Rattle.graph.proofs.TableLaws.{length-entries}

pub ruleset sizes = length-entries
