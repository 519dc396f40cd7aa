-- The instructions of a built stage are formed, each at its place in a slot.
use Rattle.std.proofs.Common.{◌≡◌, ℕ, zero, suc, true, false, List, [], ◌∷◌, ◌++◌, Some, length, replicate, refl, sym, ap, ◌∙◌, subst, arith}
use Rattle.std.specs.Prelude.{All}
use Rattle.std.proofs.lemmas.List.Elements.{All-head, All-tail}
use Rattle.rmt_bits.specs.declared.lane.Lane.{Lane}
use Rattle.rmt_build.specs.Types.{Program, Table, Unit, SlotUnit, Vliw}
use Rattle.rmt_config.specs.declared.config.Unit.TheVariants.{Gate, Slot}
use Rattle.rmt_config.specs.declared.form.code.InstructionRole.{InstructionRole}
use Rattle.rmt_config.specs.CodeForm.{code_is_formed, places_of, slot_places, unit_places, vliw_is_formed}
use Rattle.rmt_pack.specs.Placements.{data_bits}
use Rattle.rmt_refine.specs.Units.{table_at}
use Rattle.rmt_refine.proofs.PartLaws.{some_and}
use Rattle.rmt_filling.specs.TableCode.{DoTable}
use Rattle.rmt_build.specs.UnitCode.{DoUnit, DoUnits}
use Rattle.std.proofs.lemmas.List.{append-nil}
use Rattle.std.proofs.lemmas.Bool.{and_parts, both_ways}
use Rattle.std.proofs.lemmas.Slice.Zip.{AllZip-long}
use Rattle.rmt_vliw.specs.Coded.{IsCodeOf}

both_formed : (firsts seconds : List InstructionRole) (xs ys : List Vliw) → code_is_formed firsts xs ≡ true → code_is_formed seconds ys ≡ true → code_is_formed (firsts ++ seconds) (xs ++ ys) ≡ true
both_formed [] seconds [] ys one two = two
both_formed [] seconds (x ∷ xs) ys one two = absurd (both_ways false refl one)
both_formed (a ∷ firsts) seconds [] ys one two = absurd (both_ways false refl one)
both_formed (a ∷ firsts) seconds (x ∷ xs) ys one two =
    let r = and_parts (vliw_is_formed a x) (code_is_formed firsts xs) one in
    rw (r.0, both_formed firsts seconds xs ys r.1 two) refl

listed_formed : (place : InstructionRole) (n : ℕ) (xs : List Vliw) → length xs ≡ n → All (λ v. vliw_is_formed place v ≡ true) xs → code_is_formed (replicate n place) xs ≡ true
listed_formed place zero [] long all = refl
listed_formed place zero (x ∷ xs) long all = absurd (omega (arith, long))
listed_formed place (suc n) [] long all = absurd (omega (arith, long))
listed_formed place (suc n) (x ∷ xs) long all =
    rw (All-head (λ v. vliw_is_formed place v ≡ true) x xs all, listed_formed place n xs (omega (arith, long)) (All-tail (λ v. vliw_is_formed place v ≡ true) x xs all)) refl

module _ (p : Program) (places : List (List Lane)) where
  -- the data of a slot are those of its node's table
  abbrev pub HasData : Unit → Type 0
  HasData u = (s : SlotUnit) (t : Table) → u ≡ Slot s → table_at p s.node ≡ Some t → s.held ≡ data_bits p t

  slot_code : (s : SlotUnit) (t : Table) (own : List Vliw) → s.actions ≡ length t.actions → s.held ≡ data_bits p t → DoTable p places t own → code_is_formed (slot_places s) own ≡ true
  slot_code s t own actions held does =
      let count = AllZip-long (λ a (v : Vliw). IsCodeOf p places a v.ops) t.actions does.listed does.actions in
      let listed = listed_formed (record { held = s.held; is_default = false }) s.actions does.listed (omega (arith, count, actions))
      (subst (λ h. All (λ v. vliw_is_formed (record { held = h; is_default = false }) v ≡ true) does.listed) (sym held) does.formed) in
      let last : code_is_formed (record { held = s.held; is_default = true } ∷ []) (does.last ∷ []) ≡ true =
      rw (subst (λ h. vliw_is_formed (record { held = h; is_default = true }) does.last ≡ true) (sym held) does.formed_last) refl in
      ap (code_is_formed (slot_places s)) does.in_order
      ∙ both_formed (replicate s.actions (record { held = s.held; is_default = false })) (record { held = s.held; is_default = true } ∷ []) does.listed (does.last ∷ []) listed last

  unit_code : (u : Unit) (own : List Vliw) → HasData u → DoUnit p places u own → code_is_formed (places_of (u ∷ [])) own ≡ true
  unit_code (Gate g) own has none = ap (code_is_formed []) none
  unit_code (Slot s) own has does =
      let t = some_and (table_at p s.node) (λ (x : Table). (s.actions ≡ length x.actions) × DoTable p places x own) does in
      ap (λ ps. code_is_formed ps own) (append-nil (slot_places s)) ∙ slot_code s t.0 own t.2.0 (has s t.0 refl t.1) t.2.1

  pub code_formed : (us : List Unit) (code : List Vliw) → All HasData us → DoUnits p places us code → code_is_formed (places_of us) code ≡ true
  code_formed [] code has none = ap (code_is_formed []) none
  code_formed (u ∷ us) code has (own, rest, both, here, later) =
      let more = code_formed us rest (All-tail HasData u us has) later in
      ap (code_is_formed (places_of (u ∷ us))) both
      ∙ ap (λ ps. code_is_formed (ps ++ places_of us) (own ++ rest)) (sym (append-nil (unit_places u)))
      ∙ both_formed (places_of (u ∷ [])) (places_of us) own rest (unit_code u own (All-head HasData u us has) here) more
