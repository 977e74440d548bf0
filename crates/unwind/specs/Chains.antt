-- An info's codes undone, then those of the infos it is chained to, and a return pop.
use Rattle.std.specs.Prelude.{◌≡◌, ℕ, zero, suc, ◌+◌, ◌-◌, ◌^◌, ◌≤◌, true, List, length, is_ok, Ok, Err, Result, Some, None, Option}
use Rattle.std.specs.Result.{result_map_both}
use Rattle.layout.specs.declared.registers.Registers.{Registers}
use Rattle.memory.specs.Byte.{Byte}
use Rattle.memory.specs.Refusals.{Fault, item_fault}
use Rattle.tables.specs.declared.area.InfoArea.{InfoArea}
use Rattle.tables.specs.declared.entry.Entry.{Entry}
use Rattle.infos.specs.Codes.{bind}
use Rattle.infos.specs.declared.code.Code.{Code}
use Rattle.infos.specs.declared.info.Info.{Info}
use Rattle.infos.specs.Infos.{InfoOf, TailOf, nothing, handler, chained, info_at}
use Rattle.infos.specs.Listings.{listed}
use Rattle.infos.specs.Refusals.{InfoFault, reason_number}
use Rattle.infos.specs.Sequences.{codes_of}
use Rattle.unwind.specs.Codes.{SlotFault, codes_undone}
use Rattle.unwind.specs.Undoing.{returned}
use Rattle.unwind.specs.declared.code.Saves.{Saves}
use Rattle.unwind.specs.declared.chain.Cause.{Cause}
use Rattle.unwind.specs.declared.chain.Cause.TheVariants.{Unread, BadInfo, TooManyLinks}
use Rattle.unwind.specs.declared.chain.UndoFault.{UndoFault}

-- what ends the undoing of a frame: a number and its place, the slot of the code at work, and how many links were followed
pub record FaultOf : Type 0 where
  pub fault : Fault
  pub slot : Option ℕ
  pub links : ℕ

abbrev pub cause_fault : Cause → Fault
cause_fault (Unread e) = item_fault e
cause_fault (BadInfo r at) = record { number = reason_number r; place = at.0 }
cause_fault (TooManyLinks at) = record { number = 46; place = at.0 }

abbrev pub undo_fault : UndoFault → FaultOf
undo_fault e = record { fault = cause_fault e.cause; slot = e.slot; links = e.links }

-- the faults of a return pop, of a code, and of an info that is read, after so many links
abbrev pub after_links : {X : Type 0} → ℕ → Result X Fault → Result X FaultOf
after_links links r = result_map_both (λ x. x) (λ e. record { fault = e; slot = None; links = links }) r

abbrev pub at_code : {X : Type 0} → ℕ → Result X SlotFault → Result X FaultOf
at_code links r = result_map_both (λ x. x) (λ e. record { fault = e.fault; slot = Some e.slot; links = links }) r

abbrev pub at_info : {X : Type 0} → ℕ → ℕ → Result X InfoFault → Result X FaultOf
at_info links at r = result_map_both (λ x. x) (λ e. record { fault = record { number = e.number; place = at }; slot = e.slot; links = links }) r

abbrev pub info_of : InfoArea → ℕ → Result InfoOf InfoFault
info_of area rva = info_at area.bytes.now area.start.0 rva

abbrev pub codes_in : InfoOf → List Code
codes_in i = listed (codes_of i.prologue i.frame_register i.slots)

-- an info whose codes are all good, as reading gives it
abbrev pub ReadWhole : Info → Type 0
ReadWhole i = (length i.slots.now ≤ 510) × (is_ok (codes_of i.prologue i.frame_register i.slots.now) ≡ true)

-- the entry that an info is chained to
abbrev pub link : TailOf → Option Entry
link nothing = None
link (handler r d) = None
link (chained e) = Some e

-- a return pop, or what is to be done with a link
abbrev pub at_link : (ℕ → Byte) → ℕ → Option Entry → Registers → (Entry → Result Registers FaultOf) → Result Registers FaultOf
at_link s links None regs f = after_links links (returned s regs)
at_link s links (Some e) regs f = f e

-- the base, with the frame register and its offset of the info that codes stand in
abbrev pub saves_of : InfoOf → ℕ → Saves
saves_of i b = record { base = b; frame = i.frame_register; offset = i.frame_offset }

-- the info that a link names, undone whole over the base of the frame: its tail, and the registers after it
abbrev pub followed : (ℕ → Byte) → InfoArea → ℕ → ℕ → Entry → Registers → Result (TailOf × Registers) FaultOf
followed s area b links e regs =
    bind (at_info links e.info.0 (info_of area e.info.0))
    (λ i. bind (at_code links (codes_undone s (saves_of i b) (2 ^ 32 - 1) (codes_in i) regs))
    (λ u. Ok (i.tail, u)))

-- the chained infos undone, at most `left` more
unfoldable pub chain_undone : (ℕ → Byte) → InfoArea → ℕ → ℕ → ℕ → TailOf → Registers → Result Registers FaultOf
chain_undone s area b zero links t regs = at_link s links (link t) regs (λ e. Err (record { fault = record { number = 46; place = e.info.0 }; slot = None; links = links }))
chain_undone s area b (suc left) links t regs =
    at_link s links (link t) regs
    (λ e. bind (followed s area b (links + 1) e regs) (λ p. chain_undone s area b left (links + 1) p.0 p.1))
