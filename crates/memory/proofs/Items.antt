-- The bytes of an item: one more, stopped, and spelled out.
use Rattle.std.proofs.Common.{◌≡◌, ℕ, zero, suc, ◌+◌, ◌<◌, List, [], ◌∷◌, ◌++◌, Ok, Err, Result, ap, ◌∙◌, subst, ⊎_elim, add-one, arith}
use Rattle.std.specs.Result.{result_map_both}
use Rattle.std.proofs.lemmas.Bool.{cases_eq}
use Rattle.memory.specs.Byte.{Byte}
use Rattle.memory.specs.Items.{item_byte, followed, item_bytes}
use Rattle.memory.specs.Refusals.{Fault, item_fault}
use Rattle.memory.specs.declared.item.ItemFault.{ItemFault}

module _ (shows : ℕ → Byte) (start : ℕ) where
  pub bytes_more : (i : ℕ) (bs : List ℕ) (b : ℕ) → item_bytes shows start i ≡ Ok bs → item_byte shows start i ≡ Ok b → item_bytes shows start (i + 1) ≡ Ok (bs ++ b ∷ [])
  bytes_more i bs b p q = ap (item_bytes shows start) (add-one i) ∙ ap (λ r. followed r (item_byte shows start i)) p ∙ ap (followed (Ok bs)) q

  pub bytes_stop : (i n : ℕ) (bs : List ℕ) (e : Fault) → i < n → item_bytes shows start i ≡ Ok bs → item_byte shows start i ≡ Err e → item_bytes shows start n ≡ Err e
  bytes_stop i zero bs e h p q = absurd (omega arith)
  bytes_stop i (suc m) bs e h p q =
      ⊎_elim
      (λ (s : i ≡ m). subst (λ k. item_bytes shows start (suc k) ≡ Err e) s (ap (λ r. followed r (item_byte shows start i)) p ∙ ap (followed (Ok bs)) q))
      (λ s. ap (λ r. followed r (item_byte shows start m)) (bytes_stop i m bs e (omega arith) p q))
      (cases_eq i m)

-- a refusal that ends a call, by its number and place
pub ended : {X : Type 0} {r : Result X ItemFault} {e : ItemFault} {Y : Type 0} (f : X → Y) → r ≡ Err e → result_map_both f item_fault r ≡ Err (item_fault e)
ended f is = ap (result_map_both f item_fault) is
