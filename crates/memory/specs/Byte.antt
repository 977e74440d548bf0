-- What a memory shows at an address.
use Rattle.std.specs.Prelude.{ℕ}

pub data Byte : Type 0 where
  shown : ℕ → Byte
  lacking : Byte
