-- Instructions keep the rules of form.
use Rattle.std.proofs.Common.{◌≡◌, ◌≢◌, ℕ, zero, suc, ◌+◌, ◌*◌, ◌^◌, ◌<◌, ◌≤◌, true, false, not, List, [], ◌∷◌, ◌++◌, get_or, take, length, map, Some, eqb, leb, refl, sym, ap, ◌∙◌, subst, arith}
use Rattle.std.specs.Prelude.{◌&&◌, nat_lt, nat_le, All, Contains, sum, slice_get, option_map, unwrap_or}
use Rattle.std.specs.List.{IsDistinct, list_all}
use Rattle.std.proofs.lemmas.Bool.{and_from, and_parts, le-leb, leb-true, lt-ltb, ne_eqb}
use Rattle.std.proofs.lemmas.Nat.{pow_pos}
use Rattle.std.proofs.lemmas.Option.{none-some, same_Some, slice_get-get_or}
use Rattle.std.proofs.lemmas.List.{length-map, map-append, get_or-map}
use Rattle.std.proofs.lemmas.List.Elements.{All-head, All-tail, All-weaker, All-append, All-map, All-contains, All-from_recursion, recursion_from_All}
use Rattle.std.proofs.lemmas.List.Sums.{sum_by-cons, list_all-from_AllPass}
use Rattle.std.proofs.lemmas.List.Sorted.{IsPermutation-map}
use Rattle.std.proofs.lemmas.Map.Keys.{IsDistinct-head, IsDistinct-tail, IsDistinct-cons, IsDistinct-from_apart, IsDistinct-IsPermutation, IsStrictlyIncreasing-from_distinct}
use Rattle.rmt_bits.specs.Bits.{slice}
use Rattle.rmt_bits.specs.Words.{word_size}
use Rattle.rmt_bits.specs.declared.lane.Lane.{Lane}
use Rattle.rmt_bits.proofs.BitLaws.{slice-lt}
use Rattle.rmt_vliw.specs.Types.{Program, Field, Assign, Expr, Leaf, Op, Vliw, Operation, Source}
use Rattle.rmt_ast.specs.declared.program.Expr.TheVariants.{One, Two}
use Rattle.rmt_ast.specs.declared.program.Leaf.TheVariants as leaf
use Rattle.rmt_ast.specs.declared.program.Op.TheVariants.{Add, Sub, And, Or, Xor}
use Rattle.rmt_ast.specs.State.{width_of}
use Rattle.rmt_ast.specs.Places.{lanes_of}
use Rattle.rmt_ast.specs.WellFormed.{IsProgram, IsWidth, IsLeaf, IsExpr, AreDistinct}
use Rattle.rmt_phv.specs.Places.{LiesInWord, ShareNoWord, KeepsApart}
use Rattle.rmt_config.specs.declared.config.OpKind.TheVariants as kind
use Rattle.rmt_config.specs.declared.config.Source.TheVariants.{Constant}
use Rattle.rmt_config.specs.declared.form.code.InstructionRole.{InstructionRole}
use Rattle.rmt_config.specs.Order.{rises_from}
use Rattle.rmt_config.specs.LaneForm.{bits_of_lanes, lane_is_formed}
use Rattle.rmt_config.specs.CodeForm.{source_is_formed, kind_is_formed, operation_is_formed, vliw_is_formed}
use Rattle.rmt_vliw.specs.Operations.{lane_source, source_for, kind_for, operation_for, operations_from, operations_for, operations_of, IsInstruction}
use Rattle.rmt_config.specs.Effects.{begin_of}
use Rattle.rmt_vliw.proofs.PieceLaws.{begins, piece_of, begins-le, piece_there}
use Rattle.rmt_vliw.proofs.ValueLaws.{IsValue, AreFolded}
use Rattle.rmt_vliw.proofs.OperationLaws.{IsOpOf, ops_all, sorted_all, operation_word, one_of_field_at}
use Rattle.rmt_phv.proofs.LaneLaws.{lanes_lie, lanes_width}
use Rattle.rmt_bits.proofs.WordLaws.{word_size-le}
use Rattle.rmt_bits.proofs.OptionLaws.{eqb-sym}
use Rattle.rmt_config.proofs.RiseLaws.{increasing_rises}
use Rattle.rmt_bits.proofs.MemberLaws.{Contains-later}

-- ---- lanes and parameters are small

pub lanes_small : (p : Program) (places : List (List Lane)) (f : ℕ) → KeepsApart p places → All (λ (l : Lane). l.len ≤ 32) (lanes_of places f)
lanes_small p places f keeps =
    All-weaker LiesInWord (λ (l : Lane). l.len ≤ 32) (λ l lies. (let within = lies.within in let size = word_size-le l.word in omega (arith, within, size))) (lanes_of places f) (lanes_lie p places f keeps)

width_in : (fs : List Field) (f : ℕ) → All (λ (x : Field). IsWidth x.width) fs → unwrap_or (option_map (λ (x : Field). x.width) (slice_get fs f)) 0 ≤ 128
width_in [] f h = omega arith
width_in (x ∷ fs) zero h = (All-head (λ (y : Field). IsWidth y.width) x fs h).1
width_in (x ∷ fs) (suc f) h = width_in fs f (All-tail (λ (y : Field). IsWidth y.width) x fs h)

pub lanes_within : (p : Program) (places : List (List Lane)) (f : ℕ) → IsProgram p → KeepsApart p places → bits_of_lanes (lanes_of places f) ≤ 128
lanes_within p places f good keeps =
    let bits = lanes_width p places f keeps.cut in
    let width : width_of p f ≤ 128 = width_in p.fields f good.fields.widths in
    omega (arith, bits, width)

pub params_few : (params : List ℕ) → All IsWidth params → sum params ≤ 128 * length params
params_few [] h = omega arith
params_few (w ∷ ws) h =
    let all = sum_by-cons (λ (n : ℕ). n) w ws in
    let here = (All-head IsWidth w ws h).1 in
    let rest = params_few ws (All-tail IsWidth w ws h) in
    omega (arith, all, here, rest)

-- a parameter ends within all
pub param_ends : (params : List ℕ) (i width : ℕ) → slice_get params i ≡ Some width → begin_of params i + width ≤ sum params
param_ends [] i width is = absurd (none-some width is)
param_ends (w ∷ ws) zero width is =
    let same : w ≡ width = same_Some w width is in
    let all = sum_by-cons (λ (n : ℕ). n) w ws in
    let none : begin_of (w ∷ ws) 0 ≡ 0 = refl in
    omega (arith, same, all, none)
param_ends (w ∷ ws) (suc i) width is =
    let rest = param_ends ws i width is in
    let all = sum_by-cons (λ (n : ℕ). n) w ws in
    let more : begin_of (w ∷ ws) (suc i) ≡ w + begin_of ws i = sum_by-cons (λ (n : ℕ). n) w (take i ws) in
    omega (arith, rest, all, more)

-- ---- operations

-- a slot has room for the parameters
abbrev pub HasRoom : InstructionRole → List ℕ → Type 0
HasRoom place params = (i width : ℕ) → slice_get params i ≡ Some width → (place.is_default ≡ false) × (begin_of params i + width ≤ place.held)

kind_formed : (op : Op) (right : Source) → kind_is_formed (kind_for op) right ≡ true
kind_formed Add right = refl
kind_formed Sub right = refl
kind_formed And right = refl
kind_formed Or right = refl
kind_formed Xor right = refl

lane_formed : (l : Lane) → LiesInWord l → l.len ≤ 32 → lane_is_formed l ≡ true
lane_formed l lies small =
    and_from (nat_lt l.word 224 && nat_le 1 l.len && nat_le l.len 32) (nat_le (l.low + l.len) (word_size l.word))
    (and_from (nat_lt l.word 224 && nat_le 1 l.len) (nat_le l.len 32)
    (and_from (nat_lt l.word 224) (nat_le 1 l.len) (lt-ltb l.word 224 lies.exists) (le-leb 1 l.len lies.has_bits))
    (le-leb l.len 32 small))
    (le-leb (l.low + l.len) (word_size l.word) lies.within)

module _ (p : Program) (places : List (List Lane)) (params : List ℕ) (place : InstructionRole) (keeps : KeepsApart p places) (room : HasRoom place params) where
  source_formed : (f k : ℕ) (d : Lane) → k < length (lanes_of places f) → (x : Leaf) → IsLeaf p params (width_of p f) x
      → source_is_formed place (get_or (lanes_of places f) k d).len (source_for places params (piece_of (lanes_of places f) k (get_or (lanes_of places f) k d).len) x) ≡ true
  source_formed f k d lt (leaf.Field g) is =
      let ys = lanes_of places g in
      let len = (get_or (lanes_of places f) k d).len in
      let (inside, same) = piece_there p places keeps f g k d lt is.1 in
      let y = get_or ys k d in
      let lies : LiesInWord y = lanes_lie p places g keeps k d inside in
      let ends = lies.within in
      ap (λ o. source_is_formed place len (lane_source o)) (slice_get-get_or ys k d inside)
      ∙ and_from (nat_lt y.word 224) (nat_le (y.low + len) (word_size y.word)) (lt-ltb y.word 224 lies.exists) (le-leb (y.low + len) (word_size y.word) (omega (arith, ends, same)))
  source_formed f k d lt (leaf.Param i) is =
      let xs = lanes_of places f in
      let len = (get_or xs k d).len in
      let there = room i (width_of p f) is in
      let fits = there.1 in
      let ends = begins-le xs k d lt in
      let bits = lanes_width p places f keeps.cut in
      and_from (not place.is_default) (nat_le (begin_of params i + begins xs k + len) place.held)
      (ap not there.0) (le-leb (begin_of params i + begins xs k + len) place.held (omega (arith, fits, ends, bits)))
  source_formed f k d lt (leaf.Number n) is =
      let xs = lanes_of places f in
      lt-ltb (slice n (begins xs k) (get_or xs k d).len) (2 ^ (get_or xs k d).len) (slice-lt n (begins xs k) (get_or xs k d).len)

  operation_formed : (f k : ℕ) (d : Lane) → k < length (lanes_of places f) → (e : Expr) → IsExpr p params (width_of p f) e
      → operation_is_formed place (operation_for places params e (piece_of (lanes_of places f) k (get_or (lanes_of places f) k d).len) (get_or (lanes_of places f) k d)) ≡ true
  operation_formed f k d lt (One x) is =
      let xs = lanes_of places f in
      let lane = get_or xs k d in
      let left = source_for places params (piece_of xs k lane.len) x in
      and_from (lane_is_formed lane && source_is_formed place lane.len left && source_is_formed place lane.len (Constant 0)) true
      (and_from (lane_is_formed lane && source_is_formed place lane.len left) (source_is_formed place lane.len (Constant 0))
      (and_from (lane_is_formed lane) (source_is_formed place lane.len left) (lane_formed lane (lanes_lie p places f keeps k d lt) (lanes_small p places f keeps k d lt)) (source_formed f k d lt x is))
      (lt-ltb 0 (2 ^ lane.len) (pow_pos lane.len)))
      refl
  operation_formed f k d lt (Two op x y) is =
      let xs = lanes_of places f in
      let lane = get_or xs k d in
      let left = source_for places params (piece_of xs k lane.len) x in
      let right = source_for places params (piece_of xs k lane.len) y in
      and_from (lane_is_formed lane && source_is_formed place lane.len left && source_is_formed place lane.len right) (kind_is_formed (kind_for op) right)
      (and_from (lane_is_formed lane && source_is_formed place lane.len left) (source_is_formed place lane.len right)
      (and_from (lane_is_formed lane) (source_is_formed place lane.len left) (lane_formed lane (lanes_lie p places f keeps k d lt) (lanes_small p places f keeps k d lt)) (source_formed f k d lt x is.1))
      (source_formed f k d lt y is.2))
      (kind_formed op right)

-- ---- rising words

distinct_append : (xs ys : List ℕ) → IsDistinct eqb xs → IsDistinct eqb ys → All (λ x. All (λ y. x ≢ y) ys) xs → IsDistinct eqb (xs ++ ys)
distinct_append [] ys one two apart = two
distinct_append (x ∷ xs) ys one two apart =
    IsDistinct-cons eqb x (xs ++ ys)
    (recursion_from_All (λ y. eqb x y ≡ false) (xs ++ ys)
    (All-append (λ y. eqb x y ≡ false) xs ys (All-from_recursion (λ y. eqb x y ≡ false) xs (IsDistinct-head eqb x xs one))
    (All-weaker (λ y. x ≢ y) (λ y. eqb x y ≡ false) (λ y ne. ne_eqb x y ne) ys (All-head (λ z. All (λ y. z ≢ y) ys) x xs apart))))
    (distinct_append xs ys (IsDistinct-tail eqb x xs one) two (All-tail (λ z. All (λ y. z ≢ y) ys) x xs apart))

distinct_from_pairs : (xs : List ℕ) → AreDistinct xs → IsDistinct eqb xs
distinct_from_pairs xs apart = IsDistinct-from_apart eqb xs (λ i j d lt below. ne_eqb (get_or xs i d) (get_or xs j d) (apart i j d lt below))

words_from : (places : List (List Lane)) (params : List ℕ) (e : Expr) (number low : ℕ) (lanes : List Lane) → map (λ (op : Operation). op.word) (operations_from places params e number low lanes) ≡ map (λ (l : Lane). l.word) lanes
words_from places params e number low [] = refl
words_from places params e number low (l ∷ ls) =
    ap (λ w. w ∷ map (λ (op : Operation). op.word) (operations_from places params e (number + 1) (low + l.len) ls)) (operation_word places params e (record { number = number; low = low; len = l.len }) l)
    ∙ ap (λ ws. l.word ∷ ws) (words_from places params e (number + 1) (low + l.len) ls)

-- an operation of other fields is on another word
other_words : (places : List (List Lane)) (params : List ℕ) (v : Assign) (vs : List Assign) → All (λ (w : Assign). v.dest ≢ w.dest) vs
    → ((w : Assign) → Contains vs w → v.dest ≢ w.dest → ShareNoWord (lanes_of places v.dest) (lanes_of places w.dest))
    → All (λ x. All (λ y. x ≢ y) (map (λ (op : Operation). op.word) (operations_of places params vs))) (map (λ (l : Lane). l.word) (lanes_of places v.dest))
other_words places params v vs differ apart =
    All-map (λ x. All (λ y. x ≢ y) (map (λ (op : Operation). op.word) (operations_of places params vs))) (λ (l : Lane). l.word) (lanes_of places v.dest)
    (λ j e below.
    All-map (λ y. (get_or (lanes_of places v.dest) j e).word ≢ y) (λ (op : Operation). op.word) (operations_of places params vs)
    (All-weaker (IsOpOf places params vs) (λ (op : Operation). (get_or (lanes_of places v.dest) j e).word ≢ op.word)
    (λ op of same.
    (let w = of.value in
    let lanes = lanes_of places w.dest in
    let word : op.word ≡ (get_or lanes of.place e).word = ap (λ (x : Operation). x.word) (of.is e) ∙ operation_word places params w.expr (piece_of lanes of.place (get_or lanes of.place e).len) (get_or lanes of.place e) in
    apart w of.among (All-contains (λ (x : Assign). v.dest ≢ x.dest) vs w differ of.among) j e below of.place e of.inside (same ∙ word)))
    (operations_of places params vs) (ops_all places params vs)))

words_distinct : (places : List (List Lane)) (params : List ℕ) (values : List Assign) → All (λ (ls : List Lane). AreDistinct (map (λ (l : Lane). l.word) ls)) places → AreDistinct (map (λ (v : Assign). v.dest) values)
    → ((v w : Assign) → Contains values v → Contains values w → v.dest ≢ w.dest → ShareNoWord (lanes_of places v.dest) (lanes_of places w.dest))
    → IsDistinct eqb (map (λ (op : Operation). op.word) (operations_of places params values))
words_distinct places params [] own once apart = distinct_from_pairs [] (λ i j d lt below. absurd (omega (arith, below)))
words_distinct places params (v ∷ vs) own once apart =
    let word : Operation → ℕ = λ (op : Operation). op.word in
    let here : map word (operations_for places params v) ≡ map (λ (l : Lane). l.word) (lanes_of places v.dest) = words_from places params v.expr 0 0 (lanes_of places v.dest) in
    let rest = words_distinct places params vs own (λ i j d lt below. once (suc i) (suc j) d (omega (arith, lt)) (omega (arith, below)))
    (λ x w in_x in_w. apart x w (Contains-later v vs x in_x) (Contains-later v vs w in_w)) in
    let differ : All (λ (w : Assign). v.dest ≢ w.dest) vs = λ k d lt same.
    (let long = length-map vs (λ (w : Assign). w.dest) in
    once 0 (suc k) 0 (omega arith) (omega (arith, long, lt)) (same ∙ sym (get_or-map (λ (w : Assign). w.dest) vs k d 0 lt))) in
    let both : IsDistinct eqb (map (λ (l : Lane). l.word) (lanes_of places v.dest) ++ map word (operations_of places params vs)) =
    distinct_append (map (λ (l : Lane). l.word) (lanes_of places v.dest)) (map word (operations_of places params vs))
    (distinct_from_pairs (map (λ (l : Lane). l.word) (lanes_of places v.dest)) (one_of_field_at places v.dest own)) rest
    (other_words places params v vs differ (λ w in_w. apart v w (0, omega arith, refl) (Contains-later v vs w in_w))) in
    subst (IsDistinct eqb) (sym (map-append word (operations_for places params v) (operations_of places params vs) ∙ ap (λ ws. ws ++ map word (operations_of places params vs)) here)) both

-- rising numbers below a bound are few
rise_few : (least m : ℕ) (ns : List ℕ) → least ≤ m → rises_from least ns ≡ true → All (λ n. n < m) ns → least + length ns ≤ m
rise_few least m [] le up below = omega (arith, le)
rise_few least m (n ∷ ns) le up below =
    let parts = and_parts (leb least n) (rises_from (n + 1) ns) up in
    let first = leb-true least n parts.0 in
    let here : n < m = All-head (λ k. k < m) n ns below in
    let rest = rise_few (n + 1) m ns (omega (arith, here)) parts.1 (All-tail (λ k. k < m) n ns below) in
    omega (arith, first, here, rest)

-- ---- the instruction

pub formed : (p : Program) (places : List (List Lane)) (params : List ℕ) (values : List Assign) → KeepsApart p places → AreFolded p places params values
    → (v : Vliw) → IsInstruction (operations_of places params values) v.ops → (place : InstructionRole) → HasRoom place params → vliw_is_formed place v ≡ true
formed p places params values keeps folded v sorted place room =
    let word : Operation → ℕ = λ (op : Operation). op.word in
    let d : Lane = record { word = 0; low = 0; len = 0 } in
    let all = sorted_all p places params values keeps folded v.ops sorted in
    let each : All (λ (op : Operation). operation_is_formed place op ≡ true) v.ops =
    All-weaker (IsOpOf places params values) (λ (op : Operation). operation_is_formed place op ≡ true)
    (λ op of. ap (operation_is_formed place) (of.is d) ∙ operation_formed p places params place keeps room of.value.dest of.place d of.inside of.value.expr (All-contains (IsValue p params) values of.value folded.each of.among).expr)
    v.ops all in
    let below : All (λ n. n < 224) (map word v.ops) =
    All-map (λ n. n < 224) word v.ops
    (All-weaker (IsOpOf places params values) (λ (op : Operation). op.word < 224)
    (λ op of.
    (let lanes = lanes_of places of.value.dest in
    let lane = get_or lanes of.place d in
    let is : op.word ≡ lane.word = ap word (of.is d) ∙ operation_word places params of.value.expr (piece_of lanes of.place lane.len) lane in
    let exists = (lanes_lie p places of.value.dest keeps of.place d of.inside).exists in
    omega (arith, is, exists)))
    v.ops all) in
    let distinct : IsDistinct eqb (map word v.ops) =
    IsDistinct-IsPermutation eqb eqb-sym (map word (operations_of places params values)) (map word v.ops) (IsPermutation-map word (operations_of places params values) v.ops sorted.same)
    (words_distinct places params values keeps.one_of_field folded.once folded.apart) in
    let rising : rises_from 0 (map word v.ops) ≡ true =
    increasing_rises 0 (map word v.ops) (λ lt. omega arith)
    (IsStrictlyIncreasing-from_distinct (map word v.ops)
    (λ i j x le lt.
    (let long = length-map v.ops word in
    let inside : j < length v.ops = omega (arith, long, lt) in
    let no_op : Operation = record { word = 0; low = 0; len = 0; kind = kind.Copy; left = Constant 0; right = Constant 0 } in
    let one : get_or (map word v.ops) i x ≡ (get_or v.ops i no_op).word = get_or-map word v.ops i no_op x (omega (arith, le, inside)) in
    let two : get_or (map word v.ops) j x ≡ (get_or v.ops j no_op).word = get_or-map word v.ops j no_op x inside in
    let up = sorted.by_word i j no_op le inside in
    omega (arith, one, two, up)))
    distinct) in
    let few = rise_few 0 224 (map word v.ops) (omega arith) rising below in
    let long = length-map v.ops word in
    and_from (nat_lt (length v.ops) 256 && list_all (operation_is_formed place) v.ops) (rises_from 0 (map word v.ops))
    (and_from (nat_lt (length v.ops) 256) (list_all (operation_is_formed place) v.ops)
    (lt-ltb (length v.ops) 256 (omega (arith, few, long))) (list_all-from_AllPass (operation_is_formed place) v.ops each))
    rising
