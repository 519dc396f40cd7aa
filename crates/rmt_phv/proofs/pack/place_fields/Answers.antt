use Rattle.std.proofs.Common.{rules, Result, Ok, Err, ◌≡◌, ◌++◌, ◌∷◌, ◌+◌, ◌<◌, ℕ, [], List, length, drop, get_or, subst, ap, sym, ◌∙◌, refl, arith}
use Rattle.std.specs.Prelude.{All}
use Rattle.std.proofs.lemmas.List.{drop_more, length-append}
use Rattle.rmt_bits.specs.declared.lane.Lane.{Lane}
use Rattle.rmt_ast.specs.declared.program.Program.{Program}
use Rattle.rmt_ast.specs.declared.program.Field.{Field}
use Rattle.rmt_phv.specs.declared.words.Word.{Word}
use Rattle.rmt_phv.specs.declared.fault.PhvFull.{PhvFull}
use Rattle.rmt_phv.specs.Packing.{Piece, packing, pieces_at, places_from}
use Rattle.rmt_phv.specs.WordsSoFar.{AreFilled, IsNext}
use Rattle.rmt_phv.specs.Writers.{AreWriters}
use Rattle.rmt_phv.proofs.Packed.{then, pieces_of, pieces_of_push, pieces_of_below, field_more, field_none}
use Rattle.rmt_phv.proofs.pack.place_fields.Goals as goal

-- the next field, beside the pieces of these places
is_next : (p : Program) (n : ℕ) (places : List (List Lane)) (writers : List (List ℕ)) (d : List ℕ) (words : List Word)
    → length places ≡ n → n < length p.fields → AreWriters p writers → AreFilled p (pieces_of 0 places) words → IsNext p n (pieces_of 0 places) (get_or writers n d) words
is_next p n places writers d words count lt are stands = record {
  stands = stands;
  writes = are.each n d (omega (arith, are.all_there));
  earlier = subst (λ k. All (λ (x : Piece). x.field < k) (pieces_of 0 places)) count (subst (λ k. All (λ (x : Piece). x.field < k) (pieces_of 0 places)) (let zero_first : 0 + length places ≡ length places = omega arith in zero_first) (pieces_of_below 0 places));
}

pub loop-number-init : goal.loop-number-init
loop-number-init c =
    let none = c.new-places.ensures in
    rw none record { count = refl; stand = c.new-words.ensures c.args.program.now; so_far = then_none (packing c.args.program.now) }
  where
    then_none : (r : Result (List (List Lane)) PhvFull) → r ≡ then [] r
    then_none (Ok places) = refl
    then_none (Err fault) = refl

-- what is left begins with the next field
more : (p : Program) (fields : List Field) (n : ℕ) (f : Field) → fields ≡ p.fields → n < length fields → f ≡ get_or fields n f → drop n p.fields ≡ f ∷ drop (n + 1) p.fields
more p fields n f same lt is =
    subst (λ (xs : List Field). drop n xs ≡ f ∷ drop (n + 1) xs) same (drop_more fields n f lt ∙ ap (λ (x : Field). x ∷ drop (n + 1) fields) (sym is))

pub returns-in_err-lanes : goal.returns-in_err-lanes
returns-in_err-lanes c = λ ne.
    let l = c.loop-number in
    let p = c.args.program.now in
    let fields = c.as_slice-field-items.result.now in
    let same : fields ≡ p.fields = c.as_slice-field-items.ensures in
    let left = more p fields l.number c.field-item.result same c.loop-number-test.true c.field-item.is in
    let is : c.from_residual.result ≡ Err c.in_err-lanes.field-0.0 = search rules in
    let first = is_next p l.number l.places c.args.writers.now [] l.words.words l.invariant.count (omega (arith, c.loop-number-test.true, ap length same)) c.requires.writers l.invariant.stand in
    let here = l.invariant.so_far ∙ ap (λ (xs : List Field). then l.places (places_from p l.number (pieces_of 0 l.places) xs)) left in
    is ∙ sym (field_none p l.number (pieces_of 0 l.places) l.places c.field-item.result (drop (l.number + 1) p.fields) (packing p) here c.in_err-lanes.field-0.0
    (c.in_err-lanes.ensures.placed (λ e. ne cc) p (pieces_of 0 l.places) first))

pub loop-number-preserved : goal.loop-number-preserved
loop-number-preserved c =
    let l = c.loop-number in
    let p = c.args.program.now in
    let fields = c.as_slice-field-items.result.now in
    let same : fields ≡ p.fields = c.as_slice-field-items.ensures in
    let left = more p fields l.number c.field-item.result same c.loop-number-test.true c.field-item.is in
    let own = c.in_ok-lanes.lanes in
    let pushed : c.push.new.self ≡ l.places ++ own ∷ [] = c.in_ok-push.ensures.ok in
    let first = is_next p l.number l.places c.args.writers.now [] l.words.words l.invariant.count (omega (arith, c.loop-number-test.true, ap length same)) c.requires.writers l.invariant.stand in
    let here = l.invariant.so_far ∙ ap (λ (xs : List Field). then l.places (places_from p l.number (pieces_of 0 l.places) xs)) left in
    let number : 0 + length l.places ≡ l.number = omega (arith, l.invariant.count) in
    let stand : pieces_of 0 (l.places ++ own ∷ []) ≡ pieces_of 0 l.places ++ pieces_at l.number own =
    pieces_of_push 0 l.places own ∙ ap (λ n. pieces_of 0 l.places ++ pieces_at n own) number in
    let further = field_more p l.number (pieces_of 0 l.places) l.places c.field-item.result (drop (l.number + 1) p.fields) (packing p) here own
    (c.in_ok-lanes.ensures.placed (λ e. cc) p (pieces_of 0 l.places) first) in
    rw pushed
    record {
      count = omega (arith, length-append l.places (own ∷ []), l.invariant.count);
      stand = subst (λ (ps : List Piece). AreFilled p ps c.place_field.new.words.words) (sym stand) (c.in_ok-lanes.ensures.taken p (pieces_of 0 l.places) first);
      so_far = further ∙ ap (λ (ps : List Piece). then (l.places ++ own ∷ []) (places_from p (l.number + 1) ps (drop (l.number + 1) p.fields))) (sym stand);
    }
