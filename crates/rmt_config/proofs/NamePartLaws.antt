-- The rules on names of tables with parts.
use Rattle.std.proofs.Common.{◌≡◌, ℕ, ◌+◌, ◌≤◌, List, [], ◌∷◌, length, map, Bool, true, false, ◌&&◌, subst, sym, refl, ap, ◌∙◌}
use Rattle.std.specs.Prelude.{◌==◌, nat_le, sum}
use Rattle.std.specs.List.{list_all}
use Rattle.std.proofs.lemmas.Bool.{le-leb}
use Rattle.std.proofs.lemmas.List.{length-map}
use Rattle.std.proofs.lemmas.List.Folds.{list_all-append, list_all-map}
use Rattle.std.proofs.lemmas.Simd.{map-map}
use Rattle.rmt_ast.specs.declared.names.ActionName.{ActionName}
use Rattle.rmt_ast.specs.declared.names.Names.{Names}
use Rattle.rmt_ast.specs.declared.names.TableName.{TableName}
use Rattle.rmt_config.specs.Types.{Config, SlotUnit, Stage, Unit}
use Rattle.rmt_config.specs.NamesForm.{has_actions, has_key_bits, is_named}
use Rattle.rmt_config.specs.LaneForm.{bits_of_lanes}
use Rattle.rmt_config.specs.PartsTold.{part_at, parts_at}
use Rattle.rmt_config.specs.Rooms.{PartAt, parts_of}
use Rattle.rmt_config.specs.declared.form.names.part_list.Part.{Part}
use Rattle.rmt_config.specs.TableForm.{Placed, placed_from}

-- ---- rules on parts

module _ (parts : List Part) (ps : List PartAt) (seen : parts_at parts ≡ ps) where
  pub each_seen : (f : SlotUnit → Bool) → list_all (λ (p : Part). f p.slot.now) parts ≡ list_all (λ (p : PartAt). f p.slot) ps
  each_seen f = sym (list_all-map (λ (p : PartAt). f p.slot) part_at parts) ∙ ap (list_all (λ (p : PartAt). f p.slot)) seen

  seen_length : length parts ≡ length ps
  seen_length = sym (length-map parts part_at) ∙ ap length seen

  pub sum_seen : (f : SlotUnit → ℕ) → sum (map (λ (p : Part). f p.slot.now) parts) ≡ sum (map (λ (p : PartAt). f p.slot) ps)
  sum_seen f = ap sum (sym (map-map (λ (p : PartAt). f p.slot) part_at parts) ∙ ap (map (λ (p : PartAt). f p.slot)) seen)

  pub with_part : (b : Bool) → 1 ≤ length parts → b ≡ (nat_le 1 (length ps) && b)
  with_part b some = ap (λ has. has && b) (sym (le-leb 1 (length ps) (subst (λ n. 1 ≤ n) seen_length some)))

  both_seen : (f g : SlotUnit → Bool)
      → (list_all (λ (p : Part). f p.slot.now) parts && list_all (λ (p : Part). g p.slot.now) parts) ≡ (list_all (λ (p : PartAt). f p.slot) ps && list_all (λ (p : PartAt). g p.slot) ps)
  both_seen f g = ap (λ b. b && list_all (λ (p : Part). g p.slot.now) parts) (each_seen f) ∙ ap (λ b. list_all (λ (p : PartAt). f p.slot) ps && b) (each_seen g)

-- what the parts of a table say of its key and its actions
pub fit_seen : (c : Config) (t : TableName) (parts : List Part) → parts_at parts ≡ parts_of c t.node
    → (list_all (λ (p : Part). sum t.keys == bits_of_lanes p.slot.now.keys) parts
    && list_all (λ (p : Part). (length t.actions == p.slot.now.actions) && list_all (λ (a : ActionName). nat_le (sum a.params) p.slot.now.held) t.actions) parts)
    ≡ (has_key_bits c t && has_actions c t)
fit_seen c t parts seen =
    both_seen parts (parts_of c t.node) seen (λ (s : SlotUnit). sum t.keys == bits_of_lanes s.keys)
    (λ (s : SlotUnit). (length t.actions == s.actions) && list_all (λ (a : ActionName). nat_le (sum a.params) s.held) t.actions)

pub then_too : (a b : Bool) → a ≡ true → b ≡ (a && b)
then_too a b e = ap (λ x. x && b) (sym e)

pub else_not : (a b : Bool) → a ≡ false → false ≡ (a && b)
else_not a b e = ap (λ x. x && b) (sym e)

-- ---- the units with names

pub named-placed : (names : Names) (k : ℕ) (stages : List Stage)
    → list_all (λ (stage : Stage). list_all (is_named names) stage.units) stages ≡ list_all (λ (p : Placed). is_named names p.unit) (placed_from k stages)
named-placed names k [] = refl
named-placed names k (stage ∷ stages) =
    let here : List Placed = map (λ unit. record { stage = k; unit = unit }) stage.units in
    let place : Unit → Placed = λ unit. record { stage = k; unit = unit } in
    ap (λ b. list_all (is_named names) stage.units && b) (named-placed names (k + 1) stages)
    ∙ ap (λ b. b && list_all (λ (p : Placed). is_named names p.unit) (placed_from (k + 1) stages)) (sym (list_all-map (λ (p : Placed). is_named names p.unit) place stage.units))
    ∙ sym (list_all-append (λ (p : Placed). is_named names p.unit) here (placed_from (k + 1) stages))

-- ---- the rules of all tables

pub all-both : {X : Type 0} (p q : X → Bool) (xs : List X) → list_all (λ x. p x && q x) xs ≡ (list_all p xs && list_all q xs)
all-both p q [] = refl
all-both p q (x ∷ xs) = ap (λ b. (p x && q x) && b) (all-both p q xs) ∙ four (p x) (q x) (list_all p xs) (list_all q xs)
  where
    four : (a b d e : Bool) → ((a && b) && (d && e)) ≡ ((a && d) && (b && e))
    four false b d e = refl
    four true true d e = refl
    four true false true e = refl
    four true false false e = refl

pub without_names : (a named b : Bool) → named ≡ false → false ≡ ((a && named) && b)
without_names true named b e = ap (λ n. n && b) (sym e)
without_names false named b e = refl

pub with_names : (a named b : Bool) → named ≡ true → (a && b) ≡ ((a && named) && b)
with_names true named b e = ap (λ n. n && b) (sym e)
with_names false named b e = refl
