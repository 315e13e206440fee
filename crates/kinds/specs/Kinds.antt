-- The three kinds. Assumes nothing.
use Rattle.kinds.specs.Bytes.{bytes}
use Rattle.kinds.specs.Kind.{Ops}
use Rattle.kinds.specs.Remainders.{remainders}
use Rattle.kinds.specs.Tables.{small_table, wide_table, byte_table}

abbrev pub small_ops : Ops
small_ops = remainders 31 small_table

abbrev pub wide_ops : Ops
wide_ops = remainders 2147483647 wide_table

abbrev pub byte_ops : Ops
byte_ops = bytes byte_table
