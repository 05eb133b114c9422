-- `node_writing::put_case` meets its contract, for each case.
use borrow.Author.Rules.{rules}
use Rattle.node_writing.proofs.put_case.Goals as goal

pub put_symbols-requires : goal.put_symbols-requires
put_symbols-requires c = rw c.in-Symbols.is at c.requires

pub put_compound-requires : goal.put_compound-requires
put_compound-requires c = rw c.in-Compound.is at c.requires

pub put_numbers-requires : goal.put_numbers-requires
put_numbers-requires c = rw c.in-Numbers.is at c.requires

pub returns-in-Symbols : goal.returns-in-Symbols
returns-in-Symbols c = rw c.in-Symbols.is c.put_symbols.ensures

pub returns-in-Compound : goal.returns-in-Compound
returns-in-Compound c = rw c.in-Compound.is c.put_compound.ensures

pub returns-in-Numbers : goal.returns-in-Numbers
returns-in-Numbers c = rw c.in-Numbers.is c.put_numbers.ensures
