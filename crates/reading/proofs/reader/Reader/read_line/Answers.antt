use Rattle.reading.proofs.Leftmost.{fault_is_leftmost}
use Rattle.reading.proofs.Proper.{proper_is_read}
use Rattle.reading.proofs.Spells.{read_spells}
use Rattle.reading.proofs.reader.Reader.read_line.Goals as goal

pub returns-then-self-gt-MOST-clause-spells : goal.returns-then-self-gt-MOST-clause-spells
returns-then-self-gt-MOST-clause-spells c = read_spells

pub returns-then-self-gt-MOST-clause-complete : goal.returns-then-self-gt-MOST-clause-complete
returns-then-self-gt-MOST-clause-complete c = proper_is_read

pub returns-then-self-gt-MOST-clause-leftmost : goal.returns-then-self-gt-MOST-clause-leftmost
returns-then-self-gt-MOST-clause-leftmost c = fault_is_leftmost

pub returns-in_err-tokens-clause-spells : goal.returns-in_err-tokens-clause-spells
returns-in_err-tokens-clause-spells c = read_spells

pub returns-in_err-tokens-clause-complete : goal.returns-in_err-tokens-clause-complete
returns-in_err-tokens-clause-complete c = proper_is_read

pub returns-in_err-tokens-clause-leftmost : goal.returns-in_err-tokens-clause-leftmost
returns-in_err-tokens-clause-leftmost c = fault_is_leftmost

pub returns-clause-spells : goal.returns-clause-spells
returns-clause-spells c = read_spells

pub returns-clause-complete : goal.returns-clause-complete
returns-clause-complete c = proper_is_read

pub returns-clause-leftmost : goal.returns-clause-leftmost
returns-clause-leftmost c = fault_is_leftmost
