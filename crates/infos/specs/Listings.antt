-- The codes of an info in the caller's records.
use Rattle.std.specs.Prelude.{ℕ, cond, List, [], ◌++◌, length, drop, None, Ok, Err, Result, nat_le}
use Rattle.layout.specs.declared.address.Rva.{Rva}
use Rattle.tables.specs.declared.area.InfoArea.{InfoArea}
use Rattle.infos.specs.Codes.{bind}
use Rattle.infos.specs.Infos.{info_at}
use Rattle.infos.specs.Refusals.{InfoFault, fault_at}
use Rattle.infos.specs.Sequences.{codes_of}
use Rattle.infos.specs.declared.code.Code.{Code}
use Rattle.infos.specs.declared.refusal.ListRefusal.{ListRefusal}

-- the codes, where there are codes
abbrev pub listed : Result (List Code) InfoFault → List Code
listed (Ok cs) = cs
listed (Err e) = []

-- all codes of the info at an RVA
abbrev pub codes_at : List ℕ → ℕ → ℕ → Result (List Code) InfoFault
codes_at area start rva = bind (info_at area start rva) (λ i. codes_of i.prologue i.frame_register i.slots)

-- how many codes are listed: what is wrong with the info first, and last 22 where the records are too few
abbrev pub listing : List ℕ → ℕ → ℕ → ℕ → Result ℕ InfoFault
listing area start rva room = bind (codes_at area start rva) (λ cs. cond (nat_le (length cs) room) (Ok (length cs)) (Err (fault_at None 22)))

-- the records after that
abbrev pub listed_in : List ℕ → ℕ → ℕ → List Code → Result ℕ ListRefusal → List Code
listed_in area start rva records (Ok n) = listed (codes_at area start rva) ++ drop n records
listed_in area start rva records (Err _) = records

-- these two, of an area as a struct
abbrev pub listing_in : InfoArea → Rva → ℕ → Result ℕ InfoFault
listing_in area rva room = listing area.bytes.now area.start.0 rva.0 room

abbrev pub records_in : InfoArea → Rva → List Code → Result ℕ ListRefusal → List Code
records_in area rva records r = listed_in area.bytes.now area.start.0 rva.0 records r
