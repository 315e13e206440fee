-- A decision that says no, and the cause that it says. Assumes nothing.
use Rattle.std.proofs.Common.{◌≡◌, Some, None, Err, Option}
use Rattle.sharing.specs.declared.refusal.Refusal.{Refusal}
use Rattle.book.specs.Slates.{allowed}

pub cause_of : (cause : Option Refusal) (refusal : Refusal) → Err refusal ≡ allowed cause → cause ≡ Some refusal
cause_of (Some other) refusal said = cc
cause_of None refusal said = cc
