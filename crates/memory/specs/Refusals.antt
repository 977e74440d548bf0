-- Refusals of sources and items, by number and place.
use Rattle.std.specs.Prelude.{ℕ}
use Rattle.memory.specs.Reads.{read_number}
use Rattle.memory.specs.declared.item.ItemFault.{ItemFault}
use Rattle.memory.specs.declared.item.ItemFault.TheVariants.{Unread, PastEnd}
use Rattle.memory.specs.declared.range.SourceRefusal.{SourceRefusal}
use Rattle.memory.specs.declared.range.SourceRefusal.TheVariants.{OutsideRun, Disorder}

abbrev pub source_number : SourceRefusal → ℕ
source_number OutsideRun = 20
source_number Disorder = 21

-- a fault's number, and its place: the lacking byte's address, or the first value of the sum
pub record Fault : Type 0 where
  pub number : ℕ
  pub place : ℕ

abbrev pub item_fault : ItemFault → Fault
item_fault (Unread e) = record { number = read_number e; place = e.at.0 }
item_fault (PastEnd start) = record { number = 50; place = start.0 }

abbrev pub item_number : ItemFault → ℕ
item_number e = (item_fault e).number
