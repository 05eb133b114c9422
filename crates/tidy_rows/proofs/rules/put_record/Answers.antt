-- For each kind of record, its bytes.
use Rattle.tidy_rows.proofs.rules.put_record.Goals as goal

pub put-requires : goal.put-requires
put-requires c = rw c.in-Anything.is at c.requires

pub put-requires-in-Symbol : goal.put-requires-in-Symbol
put-requires-in-Symbol c = rw c.in-Symbol.is at c.requires

pub put_ends-requires : goal.put_ends-requires
put_ends-requires c = rw c.in-Series.is at c.requires

pub put_ends-requires-in-Range : goal.put_ends-requires-in-Range
put_ends-requires-in-Range c = rw c.in-Range.is at c.requires

pub put_byte_and_ends-requires : goal.put_byte_and_ends-requires
put_byte_and_ends-requires c = rw c.in-Gauged.is at c.requires

pub put-requires-in-Compound : goal.put-requires-in-Compound
put-requires-in-Compound c = rw c.in-Compound.is at c.requires

pub put-requires-in-Variable : goal.put-requires-in-Variable
put-requires-in-Variable c = rw c.in-Variable.is at c.requires

pub put_byte_and_ends-requires-in-Ranged : goal.put_byte_and_ends-requires-in-Ranged
put_byte_and_ends-requires-in-Ranged c = rw c.in-Ranged.is at c.requires

pub returns-in-Anything : goal.returns-in-Anything
returns-in-Anything c = rw c.in-Anything.is c.put.ensures

pub returns-in-Symbol : goal.returns-in-Symbol
returns-in-Symbol c =
    rw c.in-Symbol.is
    (simp (c.high.ensures, c.low.ensures) at c.put-in-Symbol.ensures)

pub returns-in-Series : goal.returns-in-Series
returns-in-Series c = rw c.in-Series.is c.put_ends.ensures

pub returns-in-Range : goal.returns-in-Range
returns-in-Range c = rw c.in-Range.is c.put_ends-in-Range.ensures

pub returns-in-Gauged : goal.returns-in-Gauged
returns-in-Gauged c = rw c.in-Gauged.is c.put_byte_and_ends.ensures

pub returns-in-Compound : goal.returns-in-Compound
returns-in-Compound c =
    rw c.in-Compound.is
    (simp (c.high-in-Compound.ensures, c.low-in-Compound.ensures) at c.put-in-Compound.ensures)

pub returns-in-Variable : goal.returns-in-Variable
returns-in-Variable c = rw c.in-Variable.is c.put-in-Variable.ensures

pub returns-in-Ranged : goal.returns-in-Ranged
returns-in-Ranged c = rw c.in-Ranged.is c.put_byte_and_ends-in-Ranged.ensures
