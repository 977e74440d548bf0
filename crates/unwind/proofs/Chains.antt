-- Links followed, one after another.
use Rattle.std.proofs.Common.{◌≡◌, ℕ, zero, suc, ◌+◌, ◌-◌, ◌≤◌, Ok, Err, Some, None, sym, ap, ◌∙◌, arith}
use Rattle.layout.specs.declared.registers.Registers.{Registers}
use Rattle.memory.specs.Byte.{Byte}
use Rattle.tables.specs.declared.area.InfoArea.{InfoArea}
use Rattle.tables.specs.declared.entry.Entry.{Entry}
use Rattle.infos.specs.Codes.{bind}
use Rattle.infos.specs.Infos.{TailOf}
use Rattle.unwind.specs.Chains.{FaultOf, link, at_link, after_links, followed, chain_undone}
use Rattle.unwind.specs.Undoing.{returned}

module _ (s : ℕ → Byte) (area : InfoArea) (b : ℕ) (links : ℕ) (t : TailOf) (regs : Registers) where
  -- no link is left
  pub chain_end : (left : ℕ) → link t ≡ None → chain_undone s area b left links t regs ≡ after_links links (returned s regs)
  unfolding chain_undone
  chain_end zero e = ap (λ o. at_link s links o regs (λ d. Err (record { fault = record { number = 46; place = d.info.0 }; slot = None; links = links }))) e
  chain_end (suc n) e = ap (λ o. at_link s links o regs (λ d. bind (followed s area b (links + 1) d regs) (λ p. chain_undone s area b n (links + 1) p.0 p.1))) e

  pub chain_full : (e : Entry) → link t ≡ Some e → chain_undone s area b 0 links t regs ≡ Err (record { fault = record { number = 46; place = e.info.0 }; slot = None; links = links })
  unfolding chain_undone
  chain_full e h = ap (λ o. at_link s links o regs (λ e. Err (record { fault = record { number = 46; place = e.info.0 }; slot = None; links = links }))) h

  module _ (left : ℕ) (some : 1 ≤ left) (e : Entry) (h : link t ≡ Some e) where
    unrolled : (n : ℕ) → 1 ≤ n → chain_undone s area b n links t regs ≡ bind (followed s area b (links + 1) e regs) (λ p. chain_undone s area b (n - 1) (links + 1) p.0 p.1)
    unfolding chain_undone
    unrolled zero l = absurd (omega arith)
    unrolled (suc n) l =
        let less : n ≡ suc n - 1 = omega arith in
        ap (λ o. at_link s links o regs (λ d. bind (followed s area b (links + 1) d regs) (λ p. chain_undone s area b n (links + 1) p.0 p.1))) h
        ∙ ap (λ m. bind (followed s area b (links + 1) e regs) (λ p. chain_undone s area b m (links + 1) p.0 p.1)) less

    pub chain_fault : (d : FaultOf) → Err d ≡ followed s area b (links + 1) e regs → chain_undone s area b left links t regs ≡ Err d
    chain_fault d r = unrolled left some ∙ ap (λ x. bind x (λ p. chain_undone s area b (left - 1) (links + 1) p.0 p.1)) (sym r)

    pub chain_next : (u : TailOf) (after : Registers) → Ok (u, after) ≡ followed s area b (links + 1) e regs → chain_undone s area b left links t regs ≡ chain_undone s area b (left - 1) (links + 1) u after
    chain_next u after r = unrolled left some ∙ ap (λ x. bind x (λ p. chain_undone s area b (left - 1) (links + 1) p.0 p.1)) (sym r)
