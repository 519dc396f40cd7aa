-- A program has few fields, each of few lanes, and each lane keeps a lane's rule.
use Rattle.std.proofs.Common.{◌≡◌, ℕ, ◌+◌, ◌/◌, ◌%◌, ◌==◌, ◌≤◌, Bool, true, false, cond, List, [], ◌∷◌, ◌++◌, length, get_or, map, replicate, length-append, sym, ap, subst, ◌∙◌, arith}
use Rattle.std.specs.Prelude.{All}
use Rattle.std.proofs.lemmas.List.{length-map, length-replicate}
use Rattle.std.proofs.lemmas.List.Elements.{All-map, All-weaker}
use Rattle.rmt_bits.proofs.AllLaws.{All-unmap}
use Rattle.rmt_bits.specs.declared.lane.Lane.{Lane}
use Rattle.rmt_core.specs.Types.{Program, Field}
use Rattle.rmt_ast.specs.WellFormed.{IsProgram}
use Rattle.rmt_config.specs.LaneForm.{lane_is_formed}
use Rattle.rmt_phv.specs.Packing.{pieces}
use Rattle.rmt_phv.specs.Places.{KeepsApart, LiesInWord, lengths_of}
use Rattle.rmt_phv.proofs.FieldCount.{fields_few}
use Rattle.rmt_ptcam.proofs.FormLaws.{lane_formed}
use Rattle.rmt_verify.specs.Spelling.{AreLanes}

-- ---- lanes of fields

pieces_few : (width : ℕ) → width ≤ 128 → length (pieces width) ≤ 5
pieces_few width narrow = by (width % 32 == 0)
  where
    wide : List ℕ
    wide = replicate (width / 32) 32

    by : (b : Bool) → length (wide ++ cond b [] (width % 32 ∷ [])) ≤ 5
    by true = omega (arith, narrow, length-append wide [], length-replicate {A = ℕ} (width / 32) 32)
    by false = omega (arith, narrow, length-append wide (width % 32 ∷ []), length-replicate {A = ℕ} (width / 32) 32)

pub lanes_few : (p : Program) (places : List (List Lane)) → IsProgram p → KeepsApart p places → All (λ (ls : List Lane). length ls ≤ 5) places
lanes_few p places program keeps =
    let each : All (λ (lens : List ℕ). length lens ≤ 5) (map (λ (f : Field). pieces f.width) p.fields) =
    All-map (λ (lens : List ℕ). length lens ≤ 5) (λ (f : Field). pieces f.width) p.fields (λ k d lt. pieces_few (get_or p.fields k d).width (program.fields.widths k d lt).1) in
    let told : All (λ (lens : List ℕ). length lens ≤ 5) (lengths_of places) = subst (λ (ls : List (List ℕ)). All (λ (lens : List ℕ). length lens ≤ 5) ls) (sym keeps.cut) each in
    let own = All-unmap (λ (lens : List ℕ). length lens ≤ 5) (λ (ls : List Lane). map (λ (l : Lane). l.len) ls) places told in
    λ k d lt. (let here = own k d lt in let same = length-map (get_or places k d) (λ (l : Lane). l.len) in omega (arith, here, same))

pub places_few : (p : Program) (places : List (List Lane)) → IsProgram p → KeepsApart p places → length places ≤ 33091
places_few p places program keeps =
    let count : length places ≡ length p.fields =
    sym (length-map places (λ (ls : List Lane). map (λ (l : Lane). l.len) ls)) ∙ (ap length keeps.cut ∙ length-map p.fields (λ (f : Field). pieces f.width)) in
    omega (arith, count, fields_few p program)

pub are_lanes : (p : Program) (places : List (List Lane)) → IsProgram p → KeepsApart p places → All AreLanes places
are_lanes p places program keeps k d lt =
    let few = lanes_few p places program keeps k d lt in
    record {
      few = omega (arith, few);
      each = All-weaker LiesInWord (λ (l : Lane). lane_is_formed l ≡ true) lane_formed (get_or places k d) (keeps.within k d lt);
    }
