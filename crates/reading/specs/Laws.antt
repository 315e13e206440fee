-- What the reading of a line means. Assumes nothing.
use Rattle.std.specs.Prelude.{◌≡◌, ℕ, List, ◌++◌}
use Rattle.reading.specs.Forms.{Form, Proper, spell}
use Rattle.reading.specs.Read.{form_read, read}

-- what is read spells the line, and is proper
abbrev pub ReadSpells : Type 0
ReadSpells =
    (bytes : List ℕ) (f : Form) (rest : List ℕ) → read bytes ≡ form_read f rest → (spell f ++ rest ≡ bytes) × Proper f

-- every proper line is read
abbrev pub ProperIsRead : Type 0
ProperIsRead = (f : Form) (rest : List ℕ) → Proper f → read (spell f ++ rest) ≡ form_read f rest
