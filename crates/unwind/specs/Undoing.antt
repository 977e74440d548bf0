-- What undoing does to registers, over what a memory shows.
use Rattle.std.specs.Prelude.{ℕ, ◌+◌, ◌-◌, ◌^◌, cond, Ok, Err, Result, nat_le, nat_lt}
use Rattle.layout.specs.declared.registers.Registers.{Registers}
use Rattle.memory.specs.Byte.{Byte}
use Rattle.memory.specs.Items.{item}
use Rattle.memory.specs.Refusals.{Fault}
use Rattle.infos.specs.Codes.{bind}
use Rattle.cpu.specs.Effects.{register_value}
use Rattle.cpu.specs.Performance.{with_register}

-- a sum that has to be an address; its place is its first value
abbrev pub sum_at : ℕ → ℕ → Result ℕ Fault
sum_at a n = cond (nat_lt (a + n) (2 ^ 64)) (Ok (a + n)) (Err (record { number = 50; place = a }))

-- the same with a displacement of 32 signed bits
abbrev pub displaced_at : ℕ → ℕ → Result ℕ Fault
displaced_at a d = cond (nat_lt d (2 ^ 31)) (sum_at a d) (cond (nat_le (2 ^ 32 - d) a) (Ok (a - (2 ^ 32 - d))) (Err (record { number = 50; place = a })))

abbrev pub rsp : Registers → ℕ
rsp regs = register_value regs 4

-- the word at RSP is read, and then RSP raised over it
abbrev pub popping : (ℕ → Byte) → Registers → (ℕ → Registers) → Result Registers Fault
popping shows regs f = bind (item 8 shows (rsp regs)) (λ w. bind (sum_at (rsp regs) 8) (λ t. Ok (with_register (f w) 4 t)))

abbrev pub popped : (ℕ → Byte) → ℕ → Registers → Result Registers Fault
popped shows r regs = popping shows regs (λ w. with_register regs r w)

abbrev pub returned : (ℕ → Byte) → Registers → Result Registers Fault
returned shows regs = popping shows regs (λ w. record { rip = record { 0 = w }; integer = regs.integer; xmm = regs.xmm })

-- RSP becomes the value of a register plus a displacement
abbrev pub moved : ℕ → ℕ → Registers → Result Registers Fault
moved r d regs = bind (displaced_at (register_value regs r) d) (λ t. Ok (with_register regs 4 t))
