-- Which windows a table takes, and what a limit over a memory shows.
use Rattle.std.specs.Prelude.{ℕ, Bool, true, cond, ◌&&◌, ◌||◌, List, [], ◌∷◌, length, is_ok, Ok, Err, Result, nat_le, nat_lt}
use Rattle.std.specs.List.{list_any, prefix_len}
use Rattle.records.specs.Spans.{holds, ascending}
use Rattle.memory.specs.Byte.{Byte, lacking}
use Rattle.limit.specs.declared.window.Window.{Window}

abbrev pub window_first : Window → ℕ
window_first w = w.first.0

abbrev pub window_last : Window → ℕ
window_last w = w.last.0

abbrev pub window_holds : ℕ → Window → Bool
window_holds at w = holds window_first window_last at w

-- some window holds the address
abbrev pub covered : List Window → ℕ → Bool
covered ws at = list_any (window_holds at) ws

-- two windows share an address
abbrev pub touches : Window → Window → Bool
touches w x = nat_le (window_first x) (window_last w) && nat_le (window_first w) (window_last x)

-- the window shares an address with one of the list
abbrev pub overlaps_any : Window → List Window → Bool
overlaps_any w xs = list_any (touches w) xs

abbrev pub in_order : List Window → Bool
in_order ws = ascending window_first window_last ws

-- taken, or refused with 33 or else with 34
abbrev pub admission : List Window → Window → Result (Unit {0}) ℕ
admission ws w = cond (nat_lt (window_last w) (window_first w) || overlaps_any w ws) (Err 33) (cond (nat_le 16 (length ws)) (Err 34) (Ok tt))

-- the list with the window after those that end before it starts
abbrev pub put_in : Window → List Window → List Window
put_in w [] = w ∷ []
put_in w (x ∷ xs) = cond (nat_lt (window_last x) (window_first w)) (x ∷ put_in w xs) (w ∷ x ∷ xs)

abbrev pub admitted : List Window → Window → List Window
admitted ws w = cond (is_ok (admission ws w)) (put_in w ws) ws

-- how many of the list end before the window starts
abbrev pub place_of : Window → List Window → ℕ
place_of w xs = prefix_len (λ x. nat_lt (window_last x) (window_first w)) xs

-- with no window every address is open, else those that a window holds
abbrev pub open_at : List Window → ℕ → Bool
open_at [] at = true
open_at (w ∷ ws) at = covered (w ∷ ws) at

-- what a limit shows of the memory below
abbrev pub limited : List Window → (ℕ → Byte) → ℕ → Byte
limited ws below at = cond (open_at ws at) (below at) lacking
