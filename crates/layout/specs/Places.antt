-- An RVA against a module's base.
use Rattle.std.specs.Prelude.{◌+◌, ◌-◌, ◌^◌, cond, ◌&&◌, Some, None, Option, nat_le, nat_lt}
use Rattle.layout.specs.declared.address.Address.{Address}
use Rattle.layout.specs.declared.address.Rva.{Rva}

-- the address at a distance above a base, if it is one
abbrev pub placed : Address → Rva → Option Address
placed base far = cond (nat_lt (base.0 + far.0) (2 ^ 64)) (Some (record { 0 = base.0 + far.0 })) None

-- the distance of an address above a base, if 32 bits hold it
abbrev pub distance : Address → Address → Option Rva
distance base at = cond (nat_le base.0 at.0 && nat_lt (at.0 - base.0) (2 ^ 32)) (Some (record { 0 = at.0 - base.0 })) None
