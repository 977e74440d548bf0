-- Refusals of the limit layer, by number.
use Rattle.std.specs.Prelude.{ℕ}
use Rattle.limit.specs.declared.window.WindowRefusal.{WindowRefusal}
use Rattle.limit.specs.declared.window.WindowRefusal.TheVariants.{Crossing, Full}

abbrev pub window_number : WindowRefusal → ℕ
window_number Crossing = 33
window_number Full = 34
