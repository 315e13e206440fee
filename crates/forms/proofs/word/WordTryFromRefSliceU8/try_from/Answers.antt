use Rattle.std.proofs.Common.{◌≡◌, ℕ, List, length, codes, sym, ap, rules, arith}
use Rattle.std.proofs.lemmas.Slice.Eq.{HasBytesAt, text_from_reads}
use Rattle.std.specs.Option.{ok_or}
use Rattle.forms.specs.Words.{word_of}
use Rattle.forms.specs.declared.fault.FormFault.TheVariants.{UnknownWord}
use Rattle.forms.proofs.word.WordTryFromRefSliceU8.try_from.Goals as goal

-- bytes that read as the name are the name's word
named : (name bytes : List ℕ) → length bytes ≡ length name → HasBytesAt bytes 0 name → ok_or (word_of name) UnknownWord ≡ ok_or (word_of bytes) UnknownWord
named name bytes size reads = sym (ap (λ w. ok_or (word_of w) UnknownWord) (text_from_reads bytes name size reads))

pub returns-in-enter : goal.returns-in-enter
returns-in-enter c = named (codes "enter") c.args.bytes.now (omega arith) (search rules)

pub returns-in-scale : goal.returns-in-scale
returns-in-scale c = named (codes "scale") c.args.bytes.now (omega arith) (search rules)

pub returns-in-begin : goal.returns-in-begin
returns-in-begin c = named (codes "begin") c.args.bytes.now (omega arith) (search rules)

pub returns-in-gather : goal.returns-in-gather
returns-in-gather c = named (codes "gather") c.args.bytes.now (omega arith) (search rules)

pub returns-in-open : goal.returns-in-open
returns-in-open c = named (codes "open") c.args.bytes.now (omega arith) (search rules)

pub returns-in-show : goal.returns-in-show
returns-in-show c = named (codes "show") c.args.bytes.now (omega arith) (search rules)
