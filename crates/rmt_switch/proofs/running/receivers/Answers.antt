use Rattle.std.proofs.Common.{◌≡◌, ◌<◌, ◌∷◌, [], ◌∙◌, List, ℕ, Bool, cond, true, false, eqb, length, ap, sym, subst, arith}
use Rattle.std.specs.Prelude.{nat_eq, slice_index_or}
use Rattle.std.specs.List.{All, IsDistinct}
use Rattle.std.proofs.lemmas.List.Elements.{All-cons, All-nil}
use Rattle.rmt_switch.proofs.DistinctLaws.{distinct_one}
use Rattle.rmt_switch.proofs.running.receivers.Goals as goal

pub returns-then-is_empty : goal.returns-then-is_empty
returns-then-is_empty c =
    let port = c.args.port in
    let line = slice_index_or c.args.groups.now port [] in
    let none : eqb (length line) 0 ≡ true = ap (λ (xs : List ℕ). eqb (length xs) 0) (sym c.ports-line.ensures.ports) ∙ sym c.is_empty.ensures ∙ c.if-is_empty.true in
    let own = c.requires.own in
    let one = ap (λ (xs : List ℕ). length xs) own in
    record {
      ports = own ∙ sym (ap (λ (b : Bool). cond b (port ∷ []) line) none);
      few = omega (arith, one);
      within = subst (All (λ p. p < 512)) (sym own) (All-cons (λ p. p < 512) port [] c.requires.port (All-nil (λ p. p < 512)));
      once = subst (IsDistinct nat_eq) (sym own) (distinct_one port);
    }

pub returns-else-is_empty : goal.returns-else-is_empty
returns-else-is_empty c =
    let port = c.args.port in
    let line = slice_index_or c.args.groups.now port [] in
    let some : eqb (length line) 0 ≡ false = ap (λ (xs : List ℕ). eqb (length xs) 0) (sym c.ports-line.ensures.ports) ∙ sym c.is_empty.ensures ∙ c.if-is_empty.false in
    record {
      ports = c.ports-line.ensures.ports ∙ sym (ap (λ (b : Bool). cond b (port ∷ []) line) some);
      few = c.ports-line.ensures.few;
      within = c.ports-line.ensures.within;
      once = c.ports-line.ensures.once;
    }
