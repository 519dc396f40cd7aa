-- The clustered parser has no more entries than the plain one.
use Rattle.std.proofs.Common.{◌≡◌, ◌⊎◌, cond, eqb, nat_lt, Bool, true, false, ℕ, zero, suc, ◌+◌, ◌<◌, ◌≤◌, List, [], ◌∷◌, ◌++◌, length, map, take, drop, fold, Option, Some, None, refl, sym, ap, subst, ◌∙◌, append_assoc, inl, inr, arith}
use Rattle.std.specs.Prelude.{◌==◌, All, option_map, slice_get}
use Rattle.std.specs.List.{filter, flat_map}
use Rattle.std.proofs.lemmas.Bool.{eqb-true, eq-eqb, lt-ltb, ltb-true, ne_eqb, or_cases, or_left, or_right, le-ltb}
use Rattle.std.proofs.lemmas.List.{append-nil, length-append, length-map, length-take-le, take_all, map-append, take_at, drop_at}
use Rattle.std.proofs.lemmas.List.Elements.{All-nil, All-cons, All-append, All-map, All-weaker, filter-append}
use Rattle.std.proofs.lemmas.Option.{slice_get-map, slice_get_within}
use Rattle.rmt_ptcam.specs.Types.{Program, Header, Case, Target, ParserConfig, ParserEntry, Next}
use Rattle.rmt_ast.specs.declared.program.Target.TheVariants as target
use Rattle.rmt_config.specs.declared.config.Next.TheVariants as next
use Rattle.std.proofs.lemmas.Option.{same_Some}
use Rattle.rmt_bits.specs.declared.lane.Lane.{Lane}
use Rattle.rmt_bits.proofs.ListLaws.{slice_get-end, slice_get-item, take-slice_get, filter-short}
use Rattle.rmt_ptcam.specs.declared.joins.Join.{Join}
use Rattle.rmt_ptcam.specs.Joining.{KeepsForm, Row, can_join, entries_in, entries_to, entry_named, join_at, join_named, join_to, joined, number_of_entry, rows_of}
use Rattle.rmt_ptcam.specs.Clustering.{Clustering, all_joined, arrivals, behind_join, clustered, compact, is_met, is_wanted, next_entry, one_entry, one_header, renamed, some_entries, some_headers, targets_of, unjoined, with_next}
use Rattle.rmt_ptcam.proofs.BusyLaws.{arrived, busy, count, count-append, count_all, count_less, count_map, count_none, count_of_filter, edge, edges, filter_map, join_shapes, leads, less_one, less_only, new, old, second, shape, shapes}
use Rattle.rmt_ptcam.proofs.CompactLaws.{among_next, state_behind}
use Rattle.rmt_ptcam.proofs.FormedRows.{entries_of_rows, split_at}
use Rattle.rmt_ptcam.proofs.JoinFacts.{MayJoin, may_join}
use Rattle.rmt_ptcam.proofs.JoinedKeeps.{joined_keeps}
use Rattle.rmt_ptcam.proofs.JoinedParse.{next_there}
use Rattle.rmt_ptcam.specs.Clustering.{goes_to}
use Rattle.rmt_ptcam.specs.Plain.{entries_from, entries_of, entry_of_case, entry_to, next_of, plain}
use Rattle.std.proofs.lemmas.Simd.{map-map}
use Rattle.rmt_bits.proofs.AlikeLaws.{filter_all, filter_none}
use Rattle.rmt_bits.specs.Members.{is_among}

-- ---- the entries of one header, one after another

abbrev own_shape : ℕ → Target → ℕ × Next
own_shape n t = (n, next_of t)

-- targets of some headers that are header m
abbrev arrivals_in : List Header → ℕ → ℕ
arrivals_in hs m = count (goes_to m) (flat_map targets_of hs)

-- headers before, this one and those behind
pub record Sides (p : Program) (before own behind : ℕ → ℕ) : Type 0 where
  pub sum : (m : ℕ) → before m + (own m + behind m) ≡ arrivals p m

-- header n is worked on: what is before it, what is done of it, what is left, and what is behind
pub record IsRunning (before own behind : ℕ → ℕ) (limit n : ℕ) (fore : List (ℕ × Next)) (ts : List Target) (c : Clustering) : Type 0 where
  pub keeps : KeepsForm c.parser
  pub done : List (ℕ × Next)
  pub back : List (ℕ × Next)
  pub split : shapes c.parser ≡ fore ++ (done ++ (map (own_shape n) ts ++ back))
  pub reached : c.behind ≡ length done
  pub front_low : All (λ (x : ℕ × Next). x.0 < n) fore
  pub done_own : All (λ (x : ℕ × Next). x.0 ≡ n) done
  pub back_high : All (λ (x : ℕ × Next). n < x.0) back
  pub front_edges : (m : ℕ) → edges m fore ≤ before m
  pub back_edges : (m : ℕ) → behind m ≡ 0 → edges m back ≡ 0
  pub left_edges : (m : ℕ) → edges m (map (own_shape n) ts) ≤ own m
  pub own_edges : (m : ℕ) → behind m ≡ 0 → edges m done + edges m (map (own_shape n) ts) ≤ own m
  pub few : busy (shapes c.parser) ≤ limit

leads_target : (m : ℕ) (t : Target) → leads m (next_of t) ≡ goes_to m t
leads_target m target.Accept = refl
leads_target m target.Reject = refl
leads_target m (target.Node k) = refl

-- the entries of states before this one are those that stand before
low_many : (parser : ParserConfig) (n : ℕ) (fore back : List (ℕ × Next)) → shapes parser ≡ fore ++ back → All (λ (x : ℕ × Next). x.0 < n) fore → All (λ (x : ℕ × Next). n ≤ x.0) back
    → length (filter (λ (e : ParserEntry). nat_lt e.state n) parser.entries) ≡ length fore
low_many parser n fore back split low high =
    let q : ℕ × Next → Bool = λ x. nat_lt x.0 n in
    let a : count q (shapes parser) ≡ count q fore + count q back = ap (count q) split ∙ count-append q fore back in
    let b : count q (shapes parser) ≡ length (filter (λ (e : ParserEntry). nat_lt e.state n) parser.entries) = count_map q shape parser.entries in
    let c = count_all q fore (All-weaker (λ (x : ℕ × Next). x.0 < n) (λ (x : ℕ × Next). q x ≡ true) (λ (x : ℕ × Next) lt. lt-ltb x.0 n lt) fore low) in
    let d = count_none q back (All-weaker (λ (x : ℕ × Next). n ≤ x.0) (λ (x : ℕ × Next). q x ≡ false) (λ (x : ℕ × Next) le. le-ltb x.0 n le) back high) in
    omega (arith, a, b, c, d)

module _ (p : Program) (before own behind : ℕ → ℕ) (sides : Sides p before own behind) (limit n : ℕ) (fore : List (ℕ × Next)) (t : Target) (ts : List Target) (c : Clustering) (is : IsRunning before own behind limit n fore (t ∷ ts) c) where
  abbrev rest : List (ℕ × Next)
  rest = map (own_shape n) ts

  abbrev x : ℕ × Next
  x = own_shape n t

  -- what is before the entry
  abbrev ahead : List (ℕ × Next)
  ahead = fore ++ is.done

  split_here : shapes c.parser ≡ ahead ++ (x ∷ (rest ++ is.back))
  split_here = is.split ∙ sym (append_assoc fore is.done (x ∷ (rest ++ is.back)))

  -- its join, and its number among all
  abbrev own_join : Join
  own_join = record { state = n; entry = c.behind }

  abbrev at : ℕ
  at = number_of_entry c.parser.entries n c.behind

  long_ahead : length ahead ≡ at
  long_ahead =
      let own_high : All (λ (y : ℕ × Next). n ≤ y.0) (is.done ++ (x ∷ (rest ++ is.back))) =
      All-append (λ (y : ℕ × Next). n ≤ y.0) is.done (x ∷ (rest ++ is.back)) (All-weaker (λ (y : ℕ × Next). y.0 ≡ n) (λ (y : ℕ × Next). n ≤ y.0) (λ (y : ℕ × Next) same. omega (arith, same)) is.done is.done_own)
      (All-append (λ (y : ℕ × Next). n ≤ y.0) (x ∷ rest) is.back (All-map (λ (y : ℕ × Next). n ≤ y.0) (own_shape n) (t ∷ ts) (λ k d lt. omega arith))
      (All-weaker (λ (y : ℕ × Next). n < y.0) (λ (y : ℕ × Next). n ≤ y.0) (λ (y : ℕ × Next) lt. omega (arith, lt)) is.back is.back_high)) in
      let low = low_many c.parser n fore (is.done ++ (x ∷ (rest ++ is.back))) is.split is.front_low own_high in
      let long = length-append fore is.done in
      let done = is.reached in
      omega (arith, low, long, done)

  entry_here : (o : Option ParserEntry) → slice_get c.parser.entries at ≡ o → option_map shape o ≡ Some x
  entry_here o found =
      let same : at ≡ length ahead + 0 = let a = long_ahead in omega (arith, a) in
      ap (option_map shape) (sym found) ∙ sym (slice_get-map shape c.parser.entries at) ∙ ap (λ l. slice_get l at) split_here ∙ ap (slice_get (ahead ++ (x ∷ (rest ++ is.back)))) same
      ∙ slice_get-end ahead (x ∷ (rest ++ is.back)) 0

  own_here : (o : Option ParserEntry) → entry_named c.parser own_join ≡ o → option_map shape o ≡ Some x
  own_here o found =
      let q : ℕ × Next → Bool = λ y. eqb y.0 n in
      let later : List (ℕ × Next) = rest ++ is.back in
      let none : filter q fore ≡ [] = filter_none q fore (All-weaker (λ (y : ℕ × Next). y.0 < n) (λ (y : ℕ × Next). q y ≡ false) (λ (y : ℕ × Next) lt. ne_eqb y.0 n (λ e. omega (arith, lt, e))) fore is.front_low) in
      let done : filter q is.done ≡ is.done = filter_all q is.done (All-weaker (λ (y : ℕ × Next). y.0 ≡ n) (λ (y : ℕ × Next). q y ≡ true) (λ (y : ℕ × Next) same. eq-eqb y.0 n same) is.done is.done_own) in
      let first : filter q (x ∷ later) ≡ x ∷ filter q later = ap (λ b. cond b (x ∷ filter q later) (filter q later)) (eq-eqb n n refl) in
      let split : filter q (shapes c.parser) ≡ is.done ++ (x ∷ filter q later) =
      ap (filter q) is.split ∙ filter-append q fore (is.done ++ (x ∷ later)) ∙ ap (λ l. l ++ filter q (is.done ++ (x ∷ later))) none
      ∙ filter-append q is.done (x ∷ later) ∙ ap (λ l. l ++ filter q (x ∷ later)) done ∙ ap (λ l. is.done ++ l) first in
      let place : c.behind ≡ length is.done + 0 = let b = is.reached in omega (arith, b) in
      ap (option_map shape) (sym found) ∙ sym (slice_get-map shape (entries_in n c.parser.entries) c.behind)
      ∙ ap (λ l. slice_get l c.behind) (sym (filter_map q shape c.parser.entries) ∙ split) ∙ ap (slice_get (is.done ++ (x ∷ filter q later))) place ∙ slice_get-end is.done (x ∷ filter q later) 0

  -- the entry stays
  stays_so : (d : Clustering) → d ≡ record c { behind = c.behind + 1 } → IsRunning before own behind limit n fore ts d
  stays_so d same =
      subst (IsRunning before own behind limit n fore ts) (sym same) (record {
        keeps = is.keeps;
        done = is.done ++ x ∷ [];
        back = is.back;
        split = is.split ∙ ap (λ l. fore ++ l) (sym (append_assoc is.done (x ∷ []) (rest ++ is.back)));
        reached = let a = is.reached in let b = length-append is.done (x ∷ []) in omega (arith, a, b);
        front_low = is.front_low;
        done_own = All-append (λ (y : ℕ × Next). y.0 ≡ n) is.done (x ∷ []) is.done_own (All-cons (λ (y : ℕ × Next). y.0 ≡ n) x [] refl (All-nil (λ (y : ℕ × Next). y.0 ≡ n)));
        back_high = is.back_high;
        front_edges = is.front_edges;
        back_edges = is.back_edges;
        left_edges = λ m. (let a = is.left_edges m in let d = count-append (edge m) (x ∷ []) rest in omega (arith, a, d));
        own_edges = λ m none. (let a = is.own_edges m none in let b = count-append (edge m) is.done (x ∷ []) in let d = count-append (edge m) (x ∷ []) rest in omega (arith, a, b, d));
        few = is.few;
      })

  -- and where it is joined
  module _ (e : ParserEntry) (there : slice_get c.parser.entries at ≡ Some e) (m : ℕ) (on : e.next ≡ next.State m) (can : can_join c.parser at e m ≡ true) (wanted : is_wanted p c.parser (next.State m) ≡ true) where
    abbrev tail : List (ℕ × Next)
    tail = rest ++ is.back

    shape_is : shape e ≡ x
    shape_is = same_Some (shape e) x (entry_here (Some e) there)

    state_is : e.state ≡ n
    state_is = ap (λ (y : ℕ × Next). y.0) shape_is

    next_is : next_of t ≡ next.State m
    next_is = sym (ap (λ (y : ℕ × Next). y.1) shape_is) ∙ on

    may : MayJoin c.parser at e m
    may = may_join c.parser at e m can

    lower : n < m
    lower = let later : e.state < m = ltb-true e.state m (next_there c.parser is.keeps at e m there on may).1 in omega (arith, later, state_is)

    as_old : shapes c.parser ≡ old ahead tail n m lower
    as_old = split_here ∙ ap (λ (to : Next). ahead ++ ((n, to) ∷ tail)) next_is

    abbrev merged : ParserConfig
    merged = joined c.parser at e m

    abbrev mine_of : List (ℕ × Next)
    mine_of = second ahead tail n m lower

    as_new : shapes merged ≡ new ahead tail n m lower
    as_new =
        let tail_is : drop (at + 1) (shapes c.parser) ≡ tail =
        ap (drop (at + 1)) (split_here ∙ sym (append_assoc ahead (x ∷ []) tail))
        ∙ drop_at (ahead ++ x ∷ []) tail (at + 1) (length-append ahead (x ∷ []) ∙ ap (λ k. k + 1) long_ahead) in
        let head_is : take at (shapes c.parser) ≡ ahead = ap (take at) split_here ∙ take_at ahead (x ∷ tail) at long_ahead in
        join_shapes c.parser at e m
        ∙ ap (λ l. l ++ (map (λ (y : ℕ × Next). (e.state, y.1)) (filter (λ (y : ℕ × Next). eqb y.0 m) (shapes c.parser)) ++ drop (at + 1) (shapes c.parser))) head_is
        ∙ ap (λ l. ahead ++ (map (λ (y : ℕ × Next). (e.state, y.1)) (filter (λ (y : ℕ × Next). eqb y.0 m) (shapes c.parser)) ++ l)) tail_is
        ∙ ap (λ l. ahead ++ (map (λ (y : ℕ × Next). (e.state, y.1)) (filter (λ (y : ℕ × Next). eqb y.0 m) l) ++ tail)) as_old
        ∙ ap (λ k. ahead ++ (map (λ (y : ℕ × Next). (k, y.1)) mine_of ++ tail)) state_is

    -- what the entry is joined to stands behind
    mine_back : mine_of ≡ filter (λ (y : ℕ × Next). eqb y.0 m) is.back
    mine_back =
        let p1 : ℕ × Next → Bool = λ y. eqb y.0 m in
        let low : filter p1 ahead ≡ [] = filter_none p1 ahead (All-append (λ (y : ℕ × Next). p1 y ≡ false) fore is.done
        (All-weaker (λ (y : ℕ × Next). y.0 < n) (λ (y : ℕ × Next). p1 y ≡ false) (λ (y : ℕ × Next) lt. ne_eqb y.0 m (λ e. (let l = lower in omega (arith, lt, l, e)))) fore is.front_low)
        (All-weaker (λ (y : ℕ × Next). y.0 ≡ n) (λ (y : ℕ × Next). p1 y ≡ false) (λ (y : ℕ × Next) same. ne_eqb y.0 m (λ e. (let l = lower in omega (arith, same, l, e)))) is.done is.done_own)) in
        let own_none : filter p1 rest ≡ [] = filter_none p1 rest (All-map (λ (y : ℕ × Next). p1 y ≡ false) (own_shape n) ts (λ k d lt. ne_eqb n m (λ e. (let l = lower in omega (arith, l, e))))) in
        filter-append p1 ahead ((n, next.State m) ∷ tail) ∙ ap (λ l. l ++ filter p1 ((n, next.State m) ∷ tail)) low
        ∙ ap (λ (b : Bool). cond b ((n, next.State m) ∷ filter p1 tail) (filter p1 tail)) (ne_eqb n m (λ e. (let l = lower in omega (arith, l, e))))
        ∙ filter-append p1 rest is.back ∙ ap (λ l. l ++ filter p1 is.back) own_none

    count_mine : length mine_of ≡ length (entries_in m c.parser.entries)
    count_mine =
        ap (λ l. length (filter (λ (y : ℕ × Next). eqb y.0 m) l)) (sym as_old) ∙ ap length (filter_map (λ (y : ℕ × Next). eqb y.0 m) shape c.parser.entries) ∙ length-map (entries_in m c.parser.entries) shape

    one_way : edges m (x ∷ rest) ≡ suc (edges m rest)
    one_way = ap (λ (to : Next). length (cond (leads m to) (x ∷ filter (edge m) rest) (filter (edge m) rest))) next_is ∙ ap (λ (b : Bool). length (cond b (x ∷ filter (edge m) rest) (filter (edge m) rest))) (eq-eqb m m refl)

    not_more : busy (new ahead tail n m lower) ≤ busy (old ahead tail n m lower)
    not_more = elim (or_cases (length (entries_in m c.parser.entries) == 1) (arrivals p m == 1) wanted) [
      | inl one ↦
          let count_is : length (entries_in m c.parser.entries) ≡ 1 = eqb-true (length (entries_in m c.parser.entries)) 1 one in
          less_one ahead tail n m lower (count_mine ∙ count_is)
      | inr only ↦
          let total : arrivals p m ≡ 1 = eqb-true (arrivals p m) 1 only in
          let sum = sides.sum m in
          let a = is.left_edges m in
          let b = one_way in
          let none : behind m ≡ 0 = omega (arith, total, sum, a, b) in
          let d = is.own_edges m none in
          let f = is.front_edges m in
          let g = is.back_edges m none in
          let h : edges m (shapes c.parser) ≡ edges m fore + (edges m is.done + (edges m (x ∷ rest) + edges m is.back)) =
          ap (edges m) is.split ∙ count-append (edge m) fore (is.done ++ ((x ∷ rest) ++ is.back)) ∙ ap (λ k. edges m fore + k) (count-append (edge m) is.done ((x ∷ rest) ++ is.back))
          ∙ ap (λ k. edges m fore + (edges m is.done + k)) (count-append (edge m) (x ∷ rest) is.back) in
          let i : edges m (old ahead tail n m lower) ≡ edges m (shapes c.parser) = ap (edges m) (sym as_old) in
          less_only ahead tail n m lower (omega (arith, total, sum, a, b, none, d, f, g, h, i))
    ]

    joined_so : IsRunning before own behind limit n fore ts (behind_join c own_join (next_of t) (Some merged))
    joined_so =
        let moved_in : List (ℕ × Next) = map (λ (y : ℕ × Next). (n, y.1)) mine_of in
        let stand : length (entries_to c.parser (next_of t)) ≡ length mine_of = ap (λ (to : Next). length (entries_to c.parser to)) next_is ∙ sym count_mine in
        let moved_long : length moved_in ≡ length mine_of = length-map {B = ℕ × Next} mine_of (λ (y : ℕ × Next). (n, y.1)) in
        let f = length-append is.done moved_in in
        record {
          keeps = joined_keeps c.parser is.keeps at e m there on may;
          done = is.done ++ moved_in;
          back = is.back;
          split = as_new ∙ append_assoc fore is.done (moved_in ++ tail) ∙ ap (λ l. fore ++ l) (sym (append_assoc is.done moved_in tail));
          reached = let done = is.reached in omega (arith, stand, moved_long, f, done);
          front_low = is.front_low;
          done_own = All-append (λ (y : ℕ × Next). y.0 ≡ n) is.done moved_in is.done_own (All-map (λ (y : ℕ × Next). y.0 ≡ n) (λ (y : ℕ × Next). (n, y.1)) mine_of (λ k dd lt. refl));
          back_high = is.back_high;
          front_edges = is.front_edges;
          back_edges = is.back_edges;
          left_edges = λ k. (let g = is.left_edges k in let h = count-append (edge k) (x ∷ []) rest in omega (arith, g, h));
          own_edges = λ k none.
              (let g = is.own_edges k none in
              let h = count-append (edge k) (x ∷ []) rest in
              let i = count-append (edge k) is.done moved_in in
              let j : edges k moved_in ≡ edges k mine_of = count_map (edge k) (λ (y : ℕ × Next). (n, y.1)) mine_of in
              let l : edges k mine_of ≡ edges k (filter (λ (y : ℕ × Next). eqb y.0 m) is.back) = ap (edges k) mine_back in
              let o = count_of_filter (edge k) (λ (y : ℕ × Next). eqb y.0 m) is.back in
              let r = is.back_edges k none in
              omega (arith, g, h, i, j, l, o, r));
          few = let g = not_more in let h : busy (shapes merged) ≡ busy (new ahead tail n m lower) = ap busy as_new in let i : busy (shapes c.parser) ≡ busy (old ahead tail n m lower) = ap busy as_old in let j = is.few in omega (arith, g, h, i, j);
        }

  -- one entry on
  pub step_on : IsRunning before own behind limit n fore ts (next_entry p n c)
  step_on = by (entry_named c.parser own_join) refl
    where
      joins : (e : ParserEntry) (m : ℕ) (can : Bool) → slice_get c.parser.entries at ≡ Some e → e.next ≡ next.State m → can_join c.parser at e m ≡ can → is_wanted p c.parser (next_of t) ≡ true
          → IsRunning before own behind limit n fore ts (behind_join c own_join (next_of t) (cond can (Some (joined c.parser at e m)) None))
      joins e m true there on can wanted =
          let same : next_of t ≡ next.State m = sym (ap (λ (y : ℕ × Next). y.1) (same_Some (shape e) x (entry_here (Some e) there))) ∙ on in
          joined_so e there m on can (ap (is_wanted p c.parser) (sym same) ∙ wanted)
      joins e m false there on can wanted = stays_so (record c { behind = c.behind + 1 }) refl

      goes : (e : ParserEntry) (to : Next) → slice_get c.parser.entries at ≡ Some e → e.next ≡ to → is_wanted p c.parser (next_of t) ≡ true
          → IsRunning before own behind limit n fore ts (behind_join c own_join (next_of t) (join_to c.parser at e to))
      goes e next.Accept there on wanted = stays_so (record c { behind = c.behind + 1 }) refl
      goes e next.Reject there on wanted = stays_so (record c { behind = c.behind + 1 }) refl
      goes e (next.State m) there on wanted = joins e m (can_join c.parser at e m) there on refl wanted

      named : (b : Bool) (o : Option ParserEntry) → slice_get c.parser.entries at ≡ o → is_wanted p c.parser (next_of t) ≡ true
          → IsRunning before own behind limit n fore ts (behind_join c own_join (next_of t) (cond b (join_at c.parser at o) None))
      named false o there wanted = stays_so (record c { behind = c.behind + 1 }) refl
      named true None there wanted = stays_so (record c { behind = c.behind + 1 }) refl
      named true (Some e) there wanted = goes e e.next there refl wanted

      chosen : (b : Bool) → is_wanted p c.parser (next_of t) ≡ b → IsRunning before own behind limit n fore ts (behind_join c own_join (next_of t) (cond b (join_named c.parser own_join) None))
      chosen true wanted = named (nat_lt c.behind (length (entries_in n c.parser.entries))) (slice_get c.parser.entries at) refl wanted
      chosen false wanted = stays_so (record c { behind = c.behind + 1 }) refl

      by : (o : Option ParserEntry) → entry_named c.parser own_join ≡ o → IsRunning before own behind limit n fore ts (one_entry p c own_join o)
      by None there = (let none : option_map shape None ≡ Some x = own_here None there in absurd cc)
      by (Some d) there =
          let same : next_of t ≡ d.next = sym (ap (λ (y : ℕ × Next). y.1) (same_Some (shape d) x (own_here (Some d) there))) in
          subst (λ (to : Next). IsRunning before own behind limit n fore ts (behind_join c own_join to (cond (is_wanted p c.parser to) (join_named c.parser own_join) None))) same
          (chosen (is_wanted p c.parser (next_of t)) refl)

-- ---- a whole header

module _ (p : Program) (before own behind : ℕ → ℕ) (sides : Sides p before own behind) (limit n : ℕ) (fore : List (ℕ × Next)) where
  run : (ts : List Target) (c : Clustering) → IsRunning before own behind limit n fore ts c → IsRunning before own behind limit n fore [] (some_entries p n (length ts) c)
  run [] c is = is
  run (t ∷ ts) c is = run ts (next_entry p n c) (step_on p before own behind sides limit n fore t ts c is)

-- the shapes of some headers' entries, the first of which has number n
abbrev shapes_from : ℕ → List Header → List (ℕ × Next)
shapes_from n [] = []
shapes_from n (h ∷ hs) = map (own_shape n) (targets_of h) ++ shapes_from (n + 1) hs

shapes_from-append : (n : ℕ) (xs ys : List Header) → shapes_from n (xs ++ ys) ≡ shapes_from n xs ++ shapes_from (n + length xs) ys
shapes_from-append n [] ys = let e : n ≡ n + 0 = omega arith in ap (λ k. shapes_from k ys) e
shapes_from-append n (x ∷ xs) ys =
    let e : n + 1 + length xs ≡ n + length (x ∷ xs) = omega arith in
    ap (λ l. map (own_shape n) (targets_of x) ++ l) (shapes_from-append (n + 1) xs ys)
    ∙ sym (append_assoc (map (own_shape n) (targets_of x)) (shapes_from (n + 1) xs) (shapes_from (n + 1 + length xs) ys))
    ∙ ap (λ k. (map (own_shape n) (targets_of x) ++ shapes_from (n + 1) xs) ++ shapes_from k ys) e

shapes_low : (n : ℕ) (hs : List Header) → All (λ (x : ℕ × Next). x.0 < n + length hs) (shapes_from n hs)
shapes_low n [] = All-nil (λ (x : ℕ × Next). x.0 < n + 0)
shapes_low n (h ∷ hs) =
    All-append (λ (x : ℕ × Next). x.0 < n + length (h ∷ hs)) (map (own_shape n) (targets_of h)) (shapes_from (n + 1) hs)
    (All-map (λ (x : ℕ × Next). x.0 < n + length (h ∷ hs)) (own_shape n) (targets_of h) (λ k d lt. omega arith))
    (All-weaker (λ (x : ℕ × Next). x.0 < n + 1 + length hs) (λ (x : ℕ × Next). x.0 < n + length (h ∷ hs)) (λ (x : ℕ × Next) lt. omega (arith, lt)) (shapes_from (n + 1) hs) (shapes_low (n + 1) hs))

own_arrivals : (m n : ℕ) (ts : List Target) → edges m (map (own_shape n) ts) ≡ count (goes_to m) ts
own_arrivals m n ts = count_map (edge m) (own_shape n) ts ∙ same ts
  where
    same : (us : List Target) → count (λ t. leads m (next_of t)) us ≡ count (goes_to m) us
    same [] = refl
    same (u ∷ us) =
        ap (λ (b : Bool). length (cond b (u ∷ filter (λ t. leads m (next_of t)) us) (filter (λ t. leads m (next_of t)) us))) (leads_target m u) ∙ by (goes_to m u) (same us)
      where
        by : (b : Bool) → count (λ t. leads m (next_of t)) us ≡ count (goes_to m) us
            → length (cond b (u ∷ filter (λ t. leads m (next_of t)) us) (filter (λ t. leads m (next_of t)) us)) ≡ length (cond b (u ∷ filter (goes_to m) us) (filter (goes_to m) us))
        by true rest = ap suc rest
        by false rest = rest

shapes_arrivals : (m n : ℕ) (hs : List Header) → edges m (shapes_from n hs) ≡ arrivals_in hs m
shapes_arrivals m n [] = refl
shapes_arrivals m n (h ∷ hs) =
    let a = count-append (edge m) (map (own_shape n) (targets_of h)) (shapes_from (n + 1) hs) in
    let b = own_arrivals m n (targets_of h) in
    let c = shapes_arrivals m (n + 1) hs in
    let d = count-append (goes_to m) (targets_of h) (flat_map targets_of hs) in
    omega (arith, a, b, c, d)

arrivals-append : (xs ys : List Header) (m : ℕ) → arrivals_in (xs ++ ys) m ≡ arrivals_in xs m + arrivals_in ys m
arrivals-append [] ys m = omega arith
arrivals-append (g ∷ xs) ys m =
    let a = count-append (goes_to m) (targets_of g) (flat_map targets_of (xs ++ ys)) in
    let b = arrivals-append xs ys m in
    let c = count-append (goes_to m) (targets_of g) (flat_map targets_of xs) in
    omega (arith, a, b, c)

-- the headers before n are as in the plain parser
pub record IsWaiting (p : Program) (limit n : ℕ) (parser : ParserConfig) : Type 0 where
  pub keeps : KeepsForm parser
  pub back : List (ℕ × Next)
  pub split : shapes parser ≡ shapes_from 0 (take n p.headers) ++ back
  pub back_high : All (λ (x : ℕ × Next). n ≤ x.0) back
  pub back_edges : (m : ℕ) → arrivals_in (drop n p.headers) m ≡ 0 → edges m back ≡ 0
  pub few : busy (shapes parser) ≤ limit

module _ (p : Program) (limit n : ℕ) (h : Header) (found : slice_get p.headers n ≡ Some h) (from : Clustering) (is : IsWaiting p limit (n + 1) from.parser) where
  abbrev parser : ParserConfig
  parser = from.parser

  abbrev start : Clustering
  start = record from { behind = 0 }

  abbrev ts : List Target
  ts = targets_of h

  abbrev front : List (ℕ × Next)
  front = shapes_from 0 (take n p.headers)

  hs_split : p.headers ≡ take n p.headers ++ h ∷ drop (n + 1) p.headers
  hs_split = split_at p.headers n h found

  long_take : length (take n p.headers) ≡ n
  long_take = let inside = slice_get_within p.headers n h found in length-take-le n p.headers (omega (arith, inside))

  split_h : shapes parser ≡ front ++ (map (own_shape n) ts ++ is.back)
  split_h =
      let one : 0 + length (take n p.headers) ≡ n = let a = long_take in omega (arith, a) in
      is.split ∙ ap (λ l. shapes_from 0 l ++ is.back) (take-slice_get p.headers n h found)
      ∙ ap (λ l. l ++ is.back) (shapes_from-append 0 (take n p.headers) (h ∷ []) ∙ ap (λ k. front ++ shapes_from k (h ∷ [])) one ∙ ap (λ l. front ++ l) (append-nil (map (own_shape n) ts)))
      ∙ append_assoc front (map (own_shape n) ts) is.back

  front_is_low : All (λ (x : ℕ × Next). x.0 < n) front
  front_is_low = subst (λ k. All (λ (x : ℕ × Next). x.0 < k) front) (let a = long_take in (let e : 0 + length (take n p.headers) ≡ n = omega (arith, a) in e)) (shapes_low 0 (take n p.headers))

  back_is_high : All (λ (x : ℕ × Next). n < x.0) is.back
  back_is_high = All-weaker (λ (x : ℕ × Next). n + 1 ≤ x.0) (λ (x : ℕ × Next). n < x.0) (λ (x : ℕ × Next) le. omega (arith, le)) is.back is.back_high

  the_sides : Sides p (arrivals_in (take n p.headers)) (λ m. count (goes_to m) ts) (arrivals_in (drop (n + 1) p.headers))
  the_sides = record {
    sum = λ m. (let a = ap (λ (l : List Header). arrivals_in l m) hs_split in
        let b = arrivals-append (take n p.headers) (h ∷ drop (n + 1) p.headers) m in
        let d = count-append (goes_to m) ts (flat_map targets_of (drop (n + 1) p.headers)) in
        omega (arith, a, b, d));
  }

  count_shapes : (q : ℕ × Next → Bool) → count q (shapes parser) ≡ count q front + (count q (map (own_shape n) ts) + count q is.back)
  count_shapes q = ap (count q) split_h ∙ count-append q front (map (own_shape n) ts ++ is.back) ∙ ap (λ k. count q front + k) (count-append q (map (own_shape n) ts) is.back)

  pub own_many : length (entries_in n parser.entries) ≡ length ts
  own_many =
      let q : ℕ × Next → Bool = λ x. eqb x.0 n in
      let a = count_shapes q in
      let b : count q (shapes parser) ≡ length (entries_in n parser.entries) = count_map q shape parser.entries in
      let c = count_none q front (All-weaker (λ (x : ℕ × Next). x.0 < n) (λ (x : ℕ × Next). q x ≡ false) (λ (x : ℕ × Next) lt. ne_eqb x.0 n (λ e. omega (arith, lt, e))) front front_is_low) in
      let d = count_all q (map (own_shape n) ts) (All-map (λ (x : ℕ × Next). q x ≡ true) (own_shape n) ts (λ k dd lt. eq-eqb n n refl)) in
      let f = length-map ts (own_shape n) in
      let e = count_none q is.back (All-weaker (λ (x : ℕ × Next). n < x.0) (λ (x : ℕ × Next). q x ≡ false) (λ (x : ℕ × Next) lt. ne_eqb x.0 n (λ e. omega (arith, lt, e))) is.back back_is_high) in
      omega (arith, a, b, c, d, e, f)

  starts : IsRunning (arrivals_in (take n p.headers)) (λ m. count (goes_to m) ts) (arrivals_in (drop (n + 1) p.headers)) limit n front ts start
  starts = record {
    keeps = is.keeps;
    done = [];
    back = is.back;
    split = split_h;
    reached = refl;
    front_low = front_is_low;
    done_own = All-nil (λ (x : ℕ × Next). x.0 ≡ n);
    back_high = back_is_high;
    front_edges = λ m. (let a = shapes_arrivals m 0 (take n p.headers) in omega (arith, a));
    back_edges = is.back_edges;
    left_edges = λ m. (let a = own_arrivals m n ts in omega (arith, a));
    own_edges = λ m none. (let a = own_arrivals m n ts in omega (arith, a));
    few = is.few;
  }

  -- the header is done
  pub header_done : IsWaiting p limit n (one_header p n from).parser
  header_done =
      let ended : IsRunning (arrivals_in (take n p.headers)) (λ m. count (goes_to m) ts) (arrivals_in (drop (n + 1) p.headers)) limit n front [] (some_entries p n (length (entries_in n parser.entries)) start) =
      subst (λ k. IsRunning (arrivals_in (take n p.headers)) (λ m. count (goes_to m) ts) (arrivals_in (drop (n + 1) p.headers)) limit n front [] (some_entries p n k start)) (sym own_many)
      (run p (arrivals_in (take n p.headers)) (λ m. count (goes_to m) ts) (arrivals_in (drop (n + 1) p.headers)) the_sides limit n front ts start starts) in
      waits (some_entries p n (length (entries_in n parser.entries)) start) ended
    where
      behind_zero : (m : ℕ) → arrivals_in (drop n p.headers) m ≡ count (goes_to m) ts + arrivals_in (drop (n + 1) p.headers) m
      behind_zero m =
          let all : drop n p.headers ≡ h ∷ drop (n + 1) p.headers = ap (drop n) hs_split ∙ drop_at (take n p.headers) (h ∷ drop (n + 1) p.headers) n long_take in
          ap (λ (l : List Header). arrivals_in l m) all ∙ count-append (goes_to m) ts (flat_map targets_of (drop (n + 1) p.headers))

      waits : (c : Clustering) → IsRunning (arrivals_in (take n p.headers)) (λ m. count (goes_to m) ts) (arrivals_in (drop (n + 1) p.headers)) limit n front [] c → IsWaiting p limit n c.parser
      waits c e = record {
        keeps = e.keeps;
        back = e.done ++ e.back;
        split = e.split;
        back_high =
            All-append (λ (x : ℕ × Next). n ≤ x.0) e.done e.back (All-weaker (λ (x : ℕ × Next). x.0 ≡ n) (λ (x : ℕ × Next). n ≤ x.0) (λ (x : ℕ × Next) same. omega (arith, same)) e.done e.done_own)
            (All-weaker (λ (x : ℕ × Next). n < x.0) (λ (x : ℕ × Next). n ≤ x.0) (λ (x : ℕ × Next) lt. omega (arith, lt)) e.back e.back_high);
        back_edges = λ m none.
            (let a = behind_zero m in
            let b : arrivals_in (drop (n + 1) p.headers) m ≡ 0 = omega (arith, none, a) in
            let d = e.own_edges m b in
            let f = e.back_edges m b in
            let g = count-append (edge m) e.done e.back in
            omega (arith, none, a, b, d, f, g));
        few = e.few;
      }

-- ---- all headers

waiting_all : (p : Program) (limit n : ℕ) (c : Clustering) → n ≤ length p.headers → IsWaiting p limit n c.parser → IsWaiting p limit 0 (some_headers p n c).parser
waiting_all p limit zero c le is = is
waiting_all p limit (suc n) c le is =
    let item = slice_get-item p.headers n (omega (arith, le)) in
    let one : suc n ≡ n + 1 = omega arith in
    let here : IsWaiting p limit (n + 1) c.parser = subst (λ k. IsWaiting p limit k c.parser) one is in
    waiting_all p limit n (one_header p n c) (omega (arith, le)) (header_done p limit n item.0 item.1 c here)

entries_shapes : (p : Program) (places : List (List Lane)) (n : ℕ) (hs : List Header) → map shape (entries_from p places n hs) ≡ shapes_from n hs
entries_shapes p places n [] = refl
entries_shapes p places n (h ∷ hs) =
    map-append shape (entries_of p places n h) (entries_from p places (n + 1) hs)
    ∙ ap (λ l. l ++ map shape (entries_from p places (n + 1) hs)) (map-append shape (map (entry_of_case p places n h) h.cases) (entry_to places n h 0 0 h.other ∷ [])
    ∙ ap (λ l. l ++ own_shape n h.other ∷ []) (map-map shape (entry_of_case p places n h) h.cases ∙ sym (map-map (own_shape n) (λ (c : Case). c.target) h.cases))
    ∙ sym (map-append (own_shape n) (map (λ (c : Case). c.target) h.cases) (h.other ∷ [])))
    ∙ ap (λ l. map (own_shape n) (targets_of h) ++ l) (entries_shapes p places (n + 1) hs)

-- ---- states that are met are gone to

met_arrived : (es : List ParserEntry) (met : List ℕ) (s : ℕ) → is_among (fold (λ (ms : List ℕ) (e : ParserEntry). cond (is_among ms e.state) (with_next ms e.next) ms) met es) s ≡ true
    → (is_among met s ≡ true) ⊎ (0 < edges s (map shape es))
met_arrived [] met s is = inl is
met_arrived (e ∷ es) met s is = by (is_among met e.state) (met_arrived es (cond (is_among met e.state) (with_next met e.next) met) s is)
  where
    more : edges s (map shape (e ∷ es)) ≡ length (cond (leads s e.next) (shape e ∷ filter (edge s) (map shape es)) (filter (edge s) (map shape es)))
    more = refl

    later : (b : Bool) → 0 < edges s (map shape es) → 0 < length (cond b (shape e ∷ filter (edge s) (map shape es)) (filter (edge s) (map shape es)))
    later true lt = omega (arith, lt)
    later false lt = lt

    new_one : (to : Next) → is_among (state_behind to) s ≡ true → leads s to ≡ true
    new_one next.Accept found = absurd cc
    new_one next.Reject found = absurd cc
    new_one (next.State k) found = elim (or_cases (eqb k s) false found) [ inl same ↦ same | inr none ↦ absurd cc ]

    by : (b : Bool) → (is_among (cond b (with_next met e.next) met) s ≡ true) ⊎ (0 < edges s (map shape es)) → (is_among met s ≡ true) ⊎ (0 < edges s (map shape (e ∷ es)))
    by b (inr lt) = inr (later (leads s e.next) lt)
    by false (inl found) = inl found
    by true (inl found) = elim (or_cases (is_among met s) (is_among (state_behind e.next) s) (sym (among_next met e.next s) ∙ found)) [
      | inl old_one ↦ inl old_one
      | inr fresh ↦ inr (let here : leads s e.next ≡ true = new_one e.next fresh in
          subst (λ (b : Bool). 0 < length (cond b (shape e ∷ filter (edge s) (map shape es)) (filter (edge s) (map shape es)))) (sym here) (let e : 0 < suc (length (filter (edge s) (map shape es))) = omega arith in e))
    ]

compact_few : (parser : ParserConfig) → length (compact parser).entries ≤ busy (shapes parser)
compact_few parser =
    let met : ParserEntry → Bool = λ e. is_met parser e.state in
    let a = length-map (map (renamed (is_met parser)) (filter (λ (x : Row). is_met parser x.entry.state) (rows_of parser))) (λ (x : Row). x.entry) in
    let b = length-map (filter (λ (x : Row). is_met parser x.entry.state) (rows_of parser)) (renamed (is_met parser)) in
    let c : count (λ (x : Row). is_met parser x.entry.state) (rows_of parser) ≡ count met parser.entries =
    sym (count_map met (λ (x : Row). x.entry) (rows_of parser)) ∙ ap (count met) (entries_of_rows parser 0 parser.entries) in
    let d : count met parser.entries ≤ count (λ (e : ParserEntry). arrived (shapes parser) e.state) parser.entries =
    count_less met (λ (e : ParserEntry). arrived (shapes parser) e.state) parser.entries (λ e is. gone e.state (met_arrived parser.entries (0 ∷ []) e.state is)) in
    let f : busy (shapes parser) ≡ count (λ (e : ParserEntry). arrived (shapes parser) e.state) parser.entries = count_map (λ (x : ℕ × Next). arrived (shapes parser) x.0) shape parser.entries in
    omega (arith, a, b, c, d, f)
  where
    gone : (s : ℕ) → (is_among (0 ∷ []) s ≡ true) ⊎ (0 < edges s (shapes parser)) → arrived (shapes parser) s ≡ true
    gone s (inr lt) = or_right (eqb s 0) (nat_lt 0 (edges s (shapes parser))) (lt-ltb 0 (edges s (shapes parser)) lt)
    gone s (inl found) = elim (or_cases (eqb 0 s) false found) [
      | inl same ↦ or_left (eqb s 0) (nat_lt 0 (edges s (shapes parser))) (eq-eqb s 0 (sym (eqb-true 0 s same)))
      | inr none ↦ absurd cc
    ]

-- all headers are as in the plain parser
pub plain_waits : (p : Program) (places : List (List Lane)) → KeepsForm (plain p places) → IsWaiting p (length (plain p places).entries) (length p.headers) (plain p places)
plain_waits p places keeps = record {
  keeps = keeps;
  back = [];
  split = entries_shapes p places 0 p.headers ∙ ap (shapes_from 0) (sym (take_all (length p.headers) p.headers (omega arith))) ∙ sym (append-nil (shapes_from 0 (take (length p.headers) p.headers)));
  back_high = All-nil (λ (x : ℕ × Next). length p.headers ≤ x.0);
  back_edges = λ m none. refl;
  few = let a = filter-short (λ (x : ℕ × Next). arrived (shapes (plain p places)) x.0) (shapes (plain p places)) in let b = length-map (plain p places).entries shape in omega (arith, a, b);
}

-- no more entries than the plain parser has
pub clustered_few : (p : Program) (places : List (List Lane)) → KeepsForm (plain p places) → length (clustered p places).entries ≤ length (plain p places).entries
clustered_few p places keeps =
    let limit : ℕ = length (plain p places).entries in
    let ended : IsWaiting p limit 0 (all_joined p (plain p places)) = waiting_all p limit (length p.headers) (unjoined (plain p places)) (omega arith) (plain_waits p places keeps) in
    let a = compact_few (all_joined p (plain p places)) in
    let b = ended.few in
    omega (arith, a, b)
