-- What is counted in one cycle: the hits of every packet at the ages at which its stages count them.
use Rattle.std.proofs.Common.{◌≡◌, ℕ, zero, suc, ◌+◌, ◌%◌, ◌^◌, ◌-◌, ◌<◌, ◌≤◌, ⊎_elim, Bool, true, false, cond, ◌==◌, List, [], ◌∷◌, ◌++◌, length, get_or, map, reverse, Option, Some, None, refl, sym, ap, subst, ◌∙◌, arith}
use Rattle.std.specs.Prelude.{nat_lt, slice_get, fold, option_map, option_and_then, unwrap_or}
use Rattle.std.specs.List.{sum_by}
use Rattle.std.proofs.Math.Path.{fun_ext}
use Rattle.std.proofs.lemmas.Bool.Decides.{nat_tests}
use Rattle.std.proofs.lemmas.List.{reverse-append, length-reverse, length-append, get_or-reverse, get_or_past}
use Rattle.std.proofs.lemmas.Bool.{cases_lt, lt-ltb, le-ltb}
use Rattle.std.proofs.lemmas.List.Sums.{sum_by-append}
use Rattle.std.proofs.lemmas.Option.{get_or_from_slice_get}
use Rattle.rmt_bits.proofs.ListLaws.{slice_get-item, slice_get-front}
use Rattle.rmt_bits.specs.Packet.{Packet}
use Rattle.rmt_bits.specs.Counts.{Hit, count_for, counts, in_order}
use Rattle.rmt_bits.specs.declared.answer.Count.{Count}
use Rattle.rmt_chip.specs.Types.{Config, Stage, Unit as ChipUnit, SlotUnit}
use Rattle.rmt_config.specs.declared.config.Unit.TheVariants.{Gate, Slot}
use Rattle.rmt_config.specs.Cells.{Found}
use Rattle.rmt_config.specs.Parser.{Parse, Reached, Short, Reject, Accept, parse, put}
use Rattle.rmt_config.specs.Instructions.{first_code}
use Rattle.rmt_config.specs.Life.{Look, Words, Life, Acts, Counted, lane_of, life_of, unit_acts, slot_acts, looked_up, runs}
use Rattle.rmt_config.specs.ChipRun.{Outcome, latency_of, outcome_of, outcome_from, hits_before}
use Rattle.rmt_config.specs.RunInputs.{Input, hits_from, look_from, packet_of}
use Rattle.rmt_chip.specs.Counting.{hits_made}
use Rattle.rmt_chip.specs.Ran.{CountsAlso}
use Rattle.rmt_chip.specs.Held.{Entered}
use Rattle.rmt_chip.specs.Hits.{hits_from as hits_of_parse, hits_of, hits_at, hits_upto}
use Rattle.rmt_chip.specs.Inputs.{entered_in, entered_at, entering}
use Rattle.rmt_chip.specs.Lives.{upto, acts_at}
use Rattle.rmt_chip.specs.Runnable.{start_of}
use Rattle.rmt_chip.proofs.LifeLaws.{upto_more, upto_all, start_of-get}
use Rattle.rmt_bits.proofs.TestLaws.{below_next, nothing_either}

-- ---- counters depend on sums over the hits alone

-- hits over which all sums are the same
abbrev pub SameSums : List Hit → List Hit → Type 0
SameSums a b = (f : Hit → ℕ) → sum_by f a ≡ sum_by f b

same_counts : (numbers : List ℕ) (a b : List Hit) → SameSums a b → counts numbers a ≡ counts numbers b
same_counts numbers a b same = ap (λ (g : ℕ → Count). map g (in_order numbers)) (fun_ext one)
  where
    parts : (n x y z w : ℕ) → x ≡ z → y ≡ w → ◌≡◌ {A = Count} (record { entry = n; packets = x; bytes = y }) (record { entry = n; packets = z; bytes = w })
    parts n x y z w e f = ap (λ (v : ℕ). record { entry = n; packets = v; bytes = y }) e ∙ ap (λ (v : ℕ). record { entry = n; packets = z; bytes = v }) f

    one : (n : ℕ) → count_for a n ≡ count_for b n
    one n =
        parts n _ _ _ _
        (ap (λ (v : ℕ). v % 2 ^ 48) (same (λ (h : Hit). cond (h.number == n) 1 0)))
        (ap (λ (v : ℕ). v % 2 ^ 64) (same (λ (h : Hit). cond (h.number == n) h.bytes 0)))

-- ---- one more cycle of a packet's age

-- a hit of a packet
abbrev hit_by : Packet → Counted → Hit
hit_by packet c = record { number = c.number; bytes = length packet.frame }

-- the hits of a packet that are counted at this very age
abbrev hits_aged : ℕ → Packet → List Counted → List Hit
hits_aged age packet [] = []
hits_aged age packet (c ∷ cs) = cond (c.age == age) (hit_by packet c ∷ []) [] ++ hits_aged age packet cs

sum_if : (f : Hit → ℕ) (h : Hit) (b : Bool) → sum_by f (cond b (h ∷ []) []) ≡ cond b (sum_by f (h ∷ [])) 0
sum_if f h true = refl
sum_if f h false = refl

before_more : (f : Hit → ℕ) (n : ℕ) (packet : Packet) (cs : List Counted)
    → sum_by f (hits_before (n + 1) packet cs) ≡ sum_by f (hits_before n packet cs) + sum_by f (hits_aged n packet cs)
before_more f n packet [] = refl
before_more f n packet (c ∷ cs) =
    let h = hit_by packet c in
    let v = sum_by f (h ∷ []) in
    let up : sum_by f (hits_before (n + 1) packet (c ∷ cs)) ≡ cond (nat_lt c.age (n + 1)) v 0 + sum_by f (hits_before (n + 1) packet cs) =
    sum_by-append f (cond (nat_lt c.age (n + 1)) (h ∷ []) []) (hits_before (n + 1) packet cs) ∙ ap (λ (x : ℕ). x + sum_by f (hits_before (n + 1) packet cs)) (sum_if f h (nat_lt c.age (n + 1))) in
    let low : sum_by f (hits_before n packet (c ∷ cs)) ≡ cond (nat_lt c.age n) v 0 + sum_by f (hits_before n packet cs) =
    sum_by-append f (cond (nat_lt c.age n) (h ∷ []) []) (hits_before n packet cs) ∙ ap (λ (x : ℕ). x + sum_by f (hits_before n packet cs)) (sum_if f h (nat_lt c.age n)) in
    let at : sum_by f (hits_aged n packet (c ∷ cs)) ≡ cond (c.age == n) v 0 + sum_by f (hits_aged n packet cs) =
    sum_by-append f (cond (c.age == n) (h ∷ []) []) (hits_aged n packet cs) ∙ ap (λ (x : ℕ). x + sum_by f (hits_aged n packet cs)) (sum_if f h (c.age == n)) in
    let one = below_next c.age n v in
    let rest = before_more f n packet cs in
    omega arith

before_none : (f : Hit → ℕ) (packet : Packet) (cs : List Counted) → sum_by f (hits_before 0 packet cs) ≡ 0
before_none f packet [] = refl
before_none f packet (c ∷ cs) =
    let never : nat_lt c.age 0 ≡ false = grind (arith, nat_tests) in
    sum_by-append f (cond (nat_lt c.age 0) _ []) (hits_before 0 packet cs) ∙ rw never (let rest = before_none f packet cs in omega arith)

-- ---- a cycle's hits, by what entered

-- the sum over the hits that are counted at this age for what entered
abbrev aged : (Hit → ℕ) → Config → ℕ → Option Entered → ℕ
aged f c age None = 0
aged f c age (Some e) = sum_by f (hits_aged age e.packet (outcome_of e.look c e.packet).counted)

-- over all that entered, the last of which has age 0
abbrev turn : (Hit → ℕ) → Config → List (Option Entered) → ℕ
turn f c [] = 0
turn f c (x ∷ rest) = aged f c (length rest) x + turn f c rest

-- all hits so far
abbrev hits_over : Config → List (Option Entered) → List Hit
hits_over c [] = []
hits_over c (None ∷ items) = hits_over c items
hits_over c ((Some e) ∷ items) = hits_before (length items + 1) e.packet (outcome_of e.look c e.packet).counted ++ hits_over c items

hits_turn : (f : Hit → ℕ) (c : Config) (items : List (Option Entered)) (item : Option Entered)
    → sum_by f (hits_over c (items ++ item ∷ [])) ≡ sum_by f (hits_over c items) + turn f c (items ++ item ∷ [])
hits_turn f c [] None = refl
hits_turn f c [] (Some e) =
    let cs = (outcome_of e.look c e.packet).counted in
    let a = sum_by-append f (hits_before (0 + 1) e.packet cs) [] in
    let b = before_more f 0 e.packet cs in
    let d = before_none f e.packet cs in
    omega arith
hits_turn f c (None ∷ items) item = let rest = hits_turn f c items item in omega arith
hits_turn f c ((Some e) ∷ items) item =
    let cs = (outcome_of e.look c e.packet).counted in
    let n = length (items ++ item ∷ []) in
    let size : n ≡ length items + 1 = length-append items (item ∷ []) in
    let rest = hits_turn f c items item in
    let up = sum_by-append f (hits_before (n + 1) e.packet cs) (hits_over c (items ++ item ∷ [])) in
    let low : sum_by f (hits_over c ((Some e) ∷ items)) ≡ sum_by f (hits_before n e.packet cs) + sum_by f (hits_over c items) =
    sum_by-append f (hits_before (length items + 1) e.packet cs) (hits_over c items) ∙ ap (λ (m : ℕ). sum_by f (hits_before m e.packet cs) + sum_by f (hits_over c items)) (sym size) in
    let more = before_more f n e.packet cs in
    omega arith

-- the same with the newest first, which has this age
abbrev turn_from : (Hit → ℕ) → Config → ℕ → List (Option Entered) → ℕ
turn_from f c age [] = 0
turn_from f c age (x ∷ xs) = aged f c age x + turn_from f c (age + 1) xs

turn_push : (f : Hit → ℕ) (c : Config) (age : ℕ) (xs : List (Option Entered)) (x : Option Entered) → turn_from f c age (xs ++ x ∷ []) ≡ turn_from f c age xs + aged f c (age + length xs) x
turn_push f c age [] x = let none : age + 0 ≡ age = omega arith in let same = ap (λ (n : ℕ). aged f c n x) none in omega arith
turn_push f c age (y ∷ ys) x =
    let next : age + 1 + length ys ≡ age + length (y ∷ ys) = omega arith in
    let same = ap (λ (n : ℕ). aged f c n x) next in
    let rest = turn_push f c (age + 1) ys x in
    omega arith

turn_back : (f : Hit → ℕ) (c : Config) (xs : List (Option Entered)) → turn f c xs ≡ turn_from f c 0 (reverse xs)
turn_back f c [] = refl
turn_back f c (x ∷ xs) =
    let back = ap (λ (ys : List (Option Entered)). turn_from f c 0 ys) (reverse-append (x ∷ []) xs) in
    let push = turn_push f c 0 (reverse xs) x in
    let size : 0 + length (reverse xs) ≡ length xs = omega (arith, length-reverse xs) in
    let same = ap (λ (n : ℕ). aged f c n x) size in
    let rest = turn_back f c xs in
    omega arith

-- ---- sums over stages

abbrev sum_below : ℕ → (ℕ → ℕ) → ℕ
sum_below zero h = 0
sum_below (suc k) h = sum_below k h + h k

sum_below-zero : (n : ℕ) (h : ℕ → ℕ) → ((k : ℕ) → k < n → h k ≡ 0) → sum_below n h ≡ 0
sum_below-zero zero h none = refl
sum_below-zero (suc n) h none =
    let here = none n (omega arith) in
    let rest = sum_below-zero n h (λ k lt. none k (omega arith)) in
    omega arith

sum_below-same : (n : ℕ) (g h : ℕ → ℕ) → ((k : ℕ) → k < n → g k ≡ h k) → sum_below n g ≡ sum_below n h
sum_below-same zero g h same = refl
sum_below-same (suc n) g h same =
    let here = same n (omega arith) in
    let rest = sum_below-same n g h (λ k lt. same k (omega arith)) in
    omega arith

sum_below-add : (n : ℕ) (g h : ℕ → ℕ) → sum_below n (λ k. g k + h k) ≡ sum_below n g + sum_below n h
sum_below-add zero g h = refl
sum_below-add (suc n) g h = let rest = sum_below-add n g h in omega arith

-- ---- the hits of one stage, for the packet that is at its age

-- of what entered, the newest of which has this age, the one that is at age t
abbrev pick : ℕ → (Option Entered → ℕ) → ℕ → List (Option Entered) → ℕ
pick t g age [] = 0
pick t g age (x ∷ xs) = cond (t == age) (g x) 0 + pick t g (age + 1) xs

apart : (t age v : ℕ) → t < age → cond (t == age) v 0 ≡ 0
apart t age v lt = grind (arith, nat_tests)

equal : (t age v : ℕ) → t ≡ age → cond (t == age) v 0 ≡ v
equal t age v same = grind (arith, nat_tests)

pick_past : (t : ℕ) (g : Option Entered → ℕ) (age : ℕ) (xs : List (Option Entered)) → t < age → pick t g age xs ≡ 0
pick_past t g age [] lt = refl
pick_past t g age (x ∷ xs) lt =
    let here = apart t age (g x) lt in
    let rest = pick_past t g (age + 1) xs (omega arith) in
    omega arith

later : (t age v i : ℕ) → t ≡ age + suc i → cond (t == age) v 0 ≡ 0
later t age v i same = grind (arith, nat_tests)

pick_at : (g : Option Entered → ℕ) → g None ≡ 0 → (t age i : ℕ) (xs : List (Option Entered)) → t ≡ age + i → pick t g age xs ≡ g (get_or xs i None)
pick_at g none t age i [] at = sym none
pick_at g none t age zero (x ∷ xs) at =
    let here = equal t age (g x) (omega arith) in
    let rest = pick_past t g (age + 1) xs (omega arith) in
    omega arith
pick_at g none t age (suc i) (x ∷ xs) at =
    let here = later t age (g x) i at in
    let rest = pick_at g none t (age + 1) i xs (omega arith) in
    omega arith

-- packets of which each counts what its stages count, stage by stage
by_stages : (f : Hit → ℕ) (c : Config) (n : ℕ) (t : ℕ → ℕ) (g : ℕ → Option Entered → ℕ)
    → ((age : ℕ) (x : Option Entered) → aged f c age x ≡ sum_below n (λ k. cond (t k == age) (g k x) 0))
    → (age : ℕ) (xs : List (Option Entered)) → turn_from f c age xs ≡ sum_below n (λ k. pick (t k) (g k) age xs)
by_stages f c n t g each age [] = sym (sum_below-zero n (λ k. 0) (λ k lt. refl))
by_stages f c n t g each age (x ∷ xs) =
    let here = each age x in
    let rest = by_stages f c n t g each (age + 1) xs in
    let both = sum_below-add n (λ k. cond (t k == age) (g k x) 0) (λ k. pick (t k) (g k) (age + 1) xs) in
    omega arith

-- ---- what a stage counts for a packet has one age

abbrev Aged : ℕ → List Counted → Type 0
Aged t [] = Unit {0}
Aged t (c ∷ cs) = (c.age ≡ t) × Aged t cs

aged-append : (t : ℕ) (xs ys : List Counted) → Aged t xs → Aged t ys → Aged t (xs ++ ys)
aged-append t [] ys a b = b
aged-append t (x ∷ xs) ys a b = (a.0, aged-append t xs ys a.1 b)

aged-reverse : (t : ℕ) (xs : List Counted) → Aged t xs → Aged t (reverse xs)
aged-reverse t [] a = tt
aged-reverse t (x ∷ xs) a = subst (Aged t) (sym (reverse-append (x ∷ []) xs)) (aged-append t (reverse xs) (x ∷ []) (aged-reverse t xs a.1) (a.0, tt))

aged_if : (t : ℕ) (b : Bool) (one : Counted) (made : List Counted) → one.age ≡ t → Aged t made → Aged t (cond b (one ∷ made) made)
aged_if t true one made a rest = (a, rest)
aged_if t false one made a rest = rest

aged_either : (t : ℕ) (b : Bool) (x y : Acts) → Aged t x.counted → Aged t y.counted → Aged t (cond b x y).counted
aged_either t true x y a b = a
aged_either t false x y a b = b

slot_aged : (stage : Stage) (first : ℕ) (s : SlotUnit) (found : Option Found) (a : Acts) → Aged (stage.start + 8) a.counted → Aged (stage.start + 8) (slot_acts stage first s found a).counted
slot_aged stage first s (Some f) a was = aged_if (stage.start + 8) s.counted (record { number = f.number; age = stage.start + 8 }) a.counted refl was
slot_aged stage first s None a was = aged_either (stage.start + 8) s.last _ a was was

unit_aged : (look : Look) (k : ℕ) (stage : Stage) (words : Words) (a : Acts) (u : ChipUnit) → Aged (stage.start + 8) a.counted → Aged (stage.start + 8) (unit_acts look k stage words a u).counted
unit_aged look k stage words a (Gate g) was = aged_either (stage.start + 8) (runs g.node g.guard a.outcomes) _ a was was
unit_aged look k stage words a (Slot s) was =
    aged_either (stage.start + 8) (runs s.node s.guard a.outcomes) (slot_acts stage (first_code stage a.place) s (looked_up look k a.place words s) a) a (slot_aged stage (first_code stage a.place) s (looked_up look k a.place words s) a was) was

units_aged : (look : Look) (k : ℕ) (stage : Stage) (words : Words) (a : Acts) (us : List ChipUnit) → Aged (stage.start + 8) a.counted → Aged (stage.start + 8) (fold (unit_acts look k stage words) a us).counted
units_aged look k stage words a [] was = was
units_aged look k stage words a (u ∷ us) was = units_aged look k stage words (unit_acts look k stage words a u) us (unit_aged look k stage words a u was)

acts_aged : (look : Look) (stages : List Stage) (vector : List ℕ) (k : ℕ) (stage : Stage) → Aged (stage.start + 8) (acts_at look stages vector k stage).counted
unfolding acts_at
acts_aged look stages vector k stage =
    units_aged look k stage ((upto look stages vector k).word stage.start) (record { outcomes = (upto look stages vector k).outcomes; running = []; counted = []; place = 0 }) stage.units tt

-- ---- a packet's hits at an age, stage by stage

hits_aged-append : (f : Hit → ℕ) (age : ℕ) (p : Packet) (xs ys : List Counted) → sum_by f (hits_aged age p (xs ++ ys)) ≡ sum_by f (hits_aged age p xs) + sum_by f (hits_aged age p ys)
hits_aged-append f age p [] ys = let e : 0 + sum_by f (hits_aged age p ys) ≡ sum_by f (hits_aged age p ys) = omega arith in sym e
hits_aged-append f age p (x ∷ xs) ys =
    let one = cond (x.age == age) (hit_by p x ∷ []) [] in
    let a = sum_by-append f one (hits_aged age p (xs ++ ys)) in
    let b = sum_by-append f one (hits_aged age p xs) in
    let rest = hits_aged-append f age p xs ys in
    omega arith

hits_of_age : (f : Hit → ℕ) (t age : ℕ) (p : Packet) (xs : List Counted) → Aged t xs → sum_by f (hits_aged age p xs) ≡ cond (t == age) (sum_by f (map (hit_by p) xs)) 0
hits_of_age f t age p [] a = sym (nothing_either (t == age) 0 refl)
hits_of_age f t age p (x ∷ xs) a = by (t == age) (ap (λ n. n == age) a.0) (hits_of_age f t age p xs a.1)
  where
    h : Hit
    h = hit_by p x

    by : (b : Bool) → (x.age == age) ≡ b → sum_by f (hits_aged age p xs) ≡ cond b (sum_by f (map (hit_by p) xs)) 0
        → sum_by f (cond (x.age == age) (h ∷ []) [] ++ hits_aged age p xs) ≡ cond b (sum_by f (h ∷ map (hit_by p) xs)) 0
    by true e rest =
        let one = ap (λ (v : Bool). sum_by f (cond v (h ∷ []) [] ++ hits_aged age p xs)) e in
        let a = sum_by-append f (h ∷ []) (hits_aged age p xs) in
        let b = sum_by-append f (h ∷ []) (map (hit_by p) xs) in
        omega arith
    by false e rest = ap (λ (v : Bool). sum_by f (cond v (h ∷ []) [] ++ hits_aged age p xs)) e ∙ rest

-- the sum over what a stage counts for an accepted packet, if there is the stage
abbrev of_made : (Hit → ℕ) → Look → List Stage → List ℕ → Packet → ℕ → Option Stage → ℕ
of_made f look stages vector p k None = 0
of_made f look stages vector p k (Some stage) = sum_by f (hits_made (length p.frame) (acts_at look stages vector k stage).counted)

counted_more : (look : Look) (stages : List Stage) (vector : List ℕ) (n : ℕ) (d : Stage) → n < length stages
    → (upto look stages vector (n + 1)).counted ≡ (upto look stages vector n).counted ++ reverse (acts_at look stages vector n (get_or stages n d)).counted
unfolding acts_at
counted_more look stages vector n d inside = ap (λ (l : Life). l.counted) (upto_more look stages vector n d inside)

-- the life of an accepted packet counts what its stages count, each at its age
life_counted : (f : Hit → ℕ) (look : Look) (stages : List Stage) (vector : List ℕ) (p : Packet) (age : ℕ) (n : ℕ) → n ≤ length stages
    → sum_by f (hits_aged age p (upto look stages vector n).counted) ≡ sum_below n (λ k. cond (start_of stages k + 8 == age) (of_made f look stages vector p k (slice_get stages k)) 0)
life_counted f look stages vector p age zero h = refl
life_counted f look stages vector p age (suc n) h =
    let inside : n < length stages = omega (arith, h) in
    let it = slice_get-item stages n inside in
    let stage = it.0 in
    let at : get_or stages n stage ≡ stage = get_or_from_slice_get stages n stage stage it.1 in
    let start : stage.start ≡ start_of stages n = sym (ap (λ (s : Stage). s.start) at) ∙ start_of-get stages n stage inside in
    let made = (acts_at look stages vector n stage).counted in
    let sum_of = λ (k : ℕ). cond (start_of stages k + 8 == age) (of_made f look stages vector p k (slice_get stages k)) 0 in
    let next : suc n ≡ n + 1 = omega arith in
    let grown : (upto look stages vector (suc n)).counted ≡ (upto look stages vector n).counted ++ reverse made =
    ap (λ (m : ℕ). (upto look stages vector m).counted) next ∙ counted_more look stages vector n stage inside
    ∙ ap (λ (s : Stage). (upto look stages vector n).counted ++ reverse (acts_at look stages vector n s).counted) at in
    let here : sum_by f (hits_aged age p (reverse made)) ≡ sum_of n =
    hits_of_age f (stage.start + 8) age p (reverse made) (aged-reverse (stage.start + 8) made (acts_aged look stages vector n stage))
    ∙ ap (λ (m : ℕ). cond (m + 8 == age) (sum_by f (hits_made (length p.frame) made)) 0) start
    ∙ ap (λ (o : Option Stage). cond (start_of stages n + 8 == age) (of_made f look stages vector p n o) 0) (sym it.1) in
    ap (λ (cs : List Counted). sum_by f (hits_aged age p cs)) grown
    ∙ hits_aged-append f age p (upto look stages vector n).counted (reverse made)
    ∙ ap (λ (m : ℕ). m + sum_by f (hits_aged age p (reverse made))) (life_counted f look stages vector p age n (omega arith))
    ∙ ap (λ (m : ℕ). sum_below n sum_of + m) here

-- ---- any packet's hits at an age, stage by stage

-- the sum over what a stage counts for a packet, by its parse
abbrev of_parse : (Hit → ℕ) → Look → Config → ℕ → Option Stage → Packet → Parse → ℕ
of_parse f look c k None p q = 0
of_parse f look c k (Some stage) p q = sum_by f (hits_of_parse look c k stage p q)

-- and for what entered
abbrev of_stage : (Hit → ℕ) → Config → ℕ → Option Stage → Option Entered → ℕ
of_stage f c k o None = 0
of_stage f c k o (Some e) = of_parse f e.look c k o e.packet (parse c.parser e.packet.frame)

short_none : (f : Hit → ℕ) (look : Look) (c : Config) (k : ℕ) (o : Option Stage) (p : Packet) → of_parse f look c k o p Short ≡ 0
short_none f look c k None p = refl
short_none f look c k (Some stage) p = refl

reject_none : (f : Hit → ℕ) (look : Look) (c : Config) (k : ℕ) (o : Option Stage) (p : Packet) → of_parse f look c k o p Reject ≡ 0
reject_none f look c k None p = refl
reject_none f look c k (Some stage) p = refl

accepted : (f : Hit → ℕ) (look : Look) (c : Config) (k : ℕ) (o : Option Stage) (p : Packet) (r : Reached) → of_made f look c.stages (put r.vector c.in_port p.port) p k o ≡ of_parse f look c k o p (Accept r)
accepted f look c k None p r = refl
accepted f look c k (Some stage) p r = refl

either_counted : (b : Bool) (x y : Outcome) (cs : List Counted) → x.counted ≡ cs → y.counted ≡ cs → (cond b x y).counted ≡ cs
either_counted true x y cs a b = a
either_counted false x y cs a b = b

by_parse : (f : Hit → ℕ) (look : Look) (c : Config) (age : ℕ) (p : Packet) (q : Parse)
    → sum_by f (hits_aged age p (outcome_from look c p q).counted)
    ≡ sum_below (length c.stages) (λ k. cond (start_of c.stages k + 8 == age) (of_parse f look c k (slice_get c.stages k) p q) 0)
by_parse f look c age p Short = sym (sum_below-zero (length c.stages) _ (λ k lt. nothing_either (start_of c.stages k + 8 == age) _ (short_none f look c k (slice_get c.stages k) p)))
by_parse f look c age p Reject = sym (sum_below-zero (length c.stages) _ (λ k lt. nothing_either (start_of c.stages k + 8 == age) _ (reject_none f look c k (slice_get c.stages k) p)))
by_parse f look c age p (Accept r) =
    let vector = put r.vector c.in_port p.port in
    let life = life_of look c.stages vector in
    let words = life.word (latency_of c.stages) in
    let all : (outcome_from look c p (Accept r)).counted ≡ (upto look c.stages vector (length c.stages)).counted =
    either_counted (lane_of words c.drop == 1) _ _ life.counted refl refl ∙ sym (ap (λ (l : Life). l.counted) (upto_all look c.stages vector)) in
    ap (λ (cs : List Counted). sum_by f (hits_aged age p cs)) all
    ∙ life_counted f look c.stages vector p age (length c.stages) (omega arith)
    ∙ sum_below-same (length c.stages) _ _ (λ k lt. ap (λ (m : ℕ). cond (start_of c.stages k + 8 == age) m 0) (accepted f look c k (slice_get c.stages k) p r))

entered_counts : (f : Hit → ℕ) (c : Config) (age : ℕ) (x : Option Entered)
    → aged f c age x ≡ sum_below (length c.stages) (λ k. cond (start_of c.stages k + 8 == age) (of_stage f c k (slice_get c.stages k) x) 0)
entered_counts f c age None = sym (sum_below-zero (length c.stages) _ (λ k lt. nothing_either (start_of c.stages k + 8 == age) 0 refl))
entered_counts f c age (Some e) = by_parse f e.look c age e.packet (parse c.parser e.packet.frame)

-- ---- the hits of all stages in a cycle

of_hits : (f : Hit → ℕ) (c : Config) (k : ℕ) (stage : Stage) (o : Option Entered) → of_stage f c k (Some stage) o ≡ sum_by f (hits_of c k stage o)
of_hits f c k stage None = refl
of_hits f c k stage (Some e) = refl

stage_turn : (f : Hit → ℕ) (c : Config) (xs : List (Option Entered)) (k : ℕ) → k < length c.stages
    → pick (start_of c.stages k + 8) (of_stage f c k (slice_get c.stages k)) 0 xs ≡ sum_by f (hits_at c (λ i. get_or xs i None) k (slice_get c.stages k))
stage_turn f c xs k inside =
    let it = slice_get-item c.stages k inside in
    let stage = it.0 in
    let at : get_or c.stages k stage ≡ stage = get_or_from_slice_get c.stages k stage stage it.1 in
    let start : stage.start ≡ start_of c.stages k = sym (ap (λ (s : Stage). s.start) at) ∙ start_of-get c.stages k stage inside in
    subst (λ (o : Option Stage). pick (start_of c.stages k + 8) (of_stage f c k o) 0 xs ≡ sum_by f (hits_at c (λ i. get_or xs i None) k o)) (sym it.1)
    (pick_at (of_stage f c k (Some stage)) refl (start_of c.stages k + 8) 0 (stage.start + 8) xs (omega arith) ∙ of_hits f c k stage (get_or xs (stage.start + 8) None))

hits_upto_sum : (f : Hit → ℕ) (c : Config) (item : ℕ → Option Entered) (n : ℕ)
    → sum_by f (hits_upto c item n) ≡ sum_below n (λ k. sum_by f (hits_at c item k (slice_get c.stages k)))
hits_upto_sum f c item zero = refl
hits_upto_sum f c item (suc n) =
    let split = sum_by-append f (hits_upto c item n) (hits_at c item n (slice_get c.stages n)) in
    let rest = hits_upto_sum f c item n in
    omega arith

turn_of_stages : (f : Hit → ℕ) (c : Config) (items : List (Option Entered)) → turn f c items ≡ sum_by f (hits_upto c (λ i. get_or (reverse items) i None) (length c.stages))
turn_of_stages f c items =
    turn_back f c items
    ∙ by_stages f c (length c.stages) (λ k. start_of c.stages k + 8) (λ k. of_stage f c k (slice_get c.stages k)) (entered_counts f c) 0 (reverse items)
    ∙ sum_below-same (length c.stages) _ _ (stage_turn f c (reverse items))
    ∙ sym (hits_upto_sum f c (λ i. get_or (reverse items) i None) (length c.stages))

-- ---- the inputs of a run

-- what enters in the cycles from one on
abbrev items_from : Config → List Input → ℕ → List Input → List (Option Entered)
items_from c run cycle [] = []
items_from c run cycle (input ∷ inputs) = option_map (entering c run cycle) (packet_of input) ∷ items_from c run (cycle + 1) inputs

length-items : (c : Config) (run : List Input) (cycle : ℕ) (inputs : List Input) → length (items_from c run cycle inputs) ≡ length inputs
length-items c run cycle [] = refl
length-items c run cycle (input ∷ inputs) = ap suc (length-items c run (cycle + 1) inputs)

items-push : (c : Config) (run : List Input) (cycle : ℕ) (inputs : List Input) (input : Input)
    → items_from c run cycle (inputs ++ input ∷ []) ≡ items_from c run cycle inputs ++ option_map (entering c run (cycle + length inputs)) (packet_of input) ∷ []
items-push c run cycle [] input = let none : cycle ≡ cycle + 0 = omega arith in ap (λ n. option_map (entering c run n) (packet_of input) ∷ []) none
items-push c run cycle (x ∷ inputs) input =
    let next : cycle + 1 + length inputs ≡ cycle + length (x ∷ inputs) = omega arith in
    ap (λ items. option_map (entering c run cycle) (packet_of x) ∷ items)
    (items-push c run (cycle + 1) inputs input ∙ ap (λ n. items_from c run (cycle + 1) inputs ++ option_map (entering c run n) (packet_of input) ∷ []) next)

item-at : (c : Config) (run : List Input) (cycle : ℕ) (inputs : List Input) (j : ℕ)
    → get_or (items_from c run cycle inputs) j None ≡ option_map (entering c run (cycle + j)) (option_and_then packet_of (slice_get inputs j))
item-at c run cycle [] j = refl
item-at c run cycle (x ∷ inputs) zero = let none : cycle ≡ cycle + 0 = omega arith in ap (λ n. option_map (entering c run n) (packet_of x)) none
item-at c run cycle (x ∷ inputs) (suc j) =
    let next : cycle + 1 + j ≡ cycle + suc j = omega arith in
    item-at c run (cycle + 1) inputs j ∙ ap (λ n. option_map (entering c run n) (option_and_then packet_of (slice_get inputs j))) next

hits-items : (c : Config) (run : List Input) (cycle : ℕ) (inputs : List Input) → hits_from c run cycle inputs ≡ hits_over c (items_from c run cycle inputs)
hits-items c run cycle [] = refl
hits-items c run cycle (input ∷ inputs) = by (packet_of input) (hits-items c run (cycle + 1) inputs) ∙ more (packet_of input)
  where
    by : (o : Option Packet) → hits_from c run (cycle + 1) inputs ≡ hits_over c (items_from c run (cycle + 1) inputs)
        → unwrap_or (option_map (λ packet. hits_before (length inputs + 1) packet (outcome_of (look_from c run cycle) c packet).counted) o) [] ++ hits_from c run (cycle + 1) inputs
        ≡ unwrap_or (option_map (λ packet. hits_before (length (items_from c run (cycle + 1) inputs) + 1) packet (outcome_of (look_from c run cycle) c packet).counted) o) [] ++ hits_over c (items_from c run (cycle + 1) inputs)
    by o rest =
        ap (λ n. unwrap_or (option_map (λ packet. hits_before (n + 1) packet (outcome_of (look_from c run cycle) c packet).counted) o) [] ++ hits_from c run (cycle + 1) inputs) (sym (length-items c run (cycle + 1) inputs))
        ∙ ap (λ hits. unwrap_or (option_map (λ packet. hits_before (length (items_from c run (cycle + 1) inputs) + 1) packet (outcome_of (look_from c run cycle) c packet).counted) o) [] ++ hits) rest

    more : (o : Option Packet) → unwrap_or (option_map (λ packet. hits_before (length (items_from c run (cycle + 1) inputs) + 1) packet (outcome_of (look_from c run cycle) c packet).counted) o) [] ++ hits_over c (items_from c run (cycle + 1) inputs)
        ≡ hits_over c (option_map (entering c run cycle) o ∷ items_from c run (cycle + 1) inputs)
    more None = refl
    more (Some p) = refl

-- what has an age in the last cycle, counted back from the newest
item_by_age : (c : Config) (inputs later : List Input) (t : ℕ)
    → get_or (reverse (items_from c (inputs ++ later) 0 inputs)) t None ≡ entered_at c (inputs ++ later) (length inputs) t
item_by_age c inputs later t =
    let run = inputs ++ later in
    let items = items_from c run 0 inputs in
    let n = length inputs in
    let size : length items ≡ n = length-items c run 0 inputs in
    ⊎_elim
    (λ (h : t < n).
    let back : length items - 1 - t ≡ n - 1 - t = omega arith in
    let first : 0 + (n - 1 - t) ≡ n - 1 - t = omega arith in
    get_or-reverse items t None (omega arith)
    ∙ ap (λ m. get_or items m None) back
    ∙ item-at c run 0 inputs (n - 1 - t)
    ∙ ap (λ m. option_map (entering c run m) (option_and_then packet_of (slice_get inputs (n - 1 - t)))) first
    ∙ ap (λ o. option_map (entering c run (n - 1 - t)) (option_and_then packet_of o)) (sym (slice_get-front inputs later (n - 1 - t) (omega arith)))
    ∙ sym (ap (λ (b : Bool). cond b (entered_in c run (n - 1 - t)) None) (lt-ltb t n h)))
    (λ (h : n ≤ t).
    get_or_past (reverse items) t None (omega (arith, length-reverse items))
    ∙ sym (ap (λ (b : Bool). cond b (entered_in c run (n - 1 - t)) None) (le-ltb t n h)))
    (cases_lt t n)

-- counters that were those of the inputs so far and now have a cycle's hits too are those of the inputs with that cycle's
pub counted_turn : (c : Config) (numbers : List ℕ) (inputs later : List Input) (input : Input) (old new : List Count)
    → let run = (inputs ++ input ∷ []) ++ later in old ≡ counts numbers (hits_from c run 0 inputs)
    → CountsAlso old new (hits_upto c (entered_at c run (length (inputs ++ input ∷ []))) (length c.stages)) → new ≡ counts numbers (hits_from c run 0 (inputs ++ input ∷ []))
counted_turn c numbers inputs later input old new were also =
    let all = inputs ++ input ∷ [] in
    let run = all ++ later in
    let items = items_from c run 0 inputs in
    let last = option_map (entering c run (0 + length inputs)) (packet_of input) in
    let whole : items_from c run 0 all ≡ items ++ last ∷ [] = items-push c run 0 inputs input in
    let by_age : (λ i. get_or (reverse (items ++ last ∷ [])) i None) ≡ entered_at c run (length all) =
    fun_ext (λ t. ap (λ (xs : List (Option Entered)). get_or (reverse xs) t None) (sym whole) ∙ item_by_age c all later t) in
    also numbers (hits_from c run 0 inputs) were
    ∙ same_counts numbers (hits_from c run 0 inputs ++ hits_upto c (entered_at c run (length all)) (length c.stages)) (hits_from c run 0 all)
    (λ f.
    sum_by-append f (hits_from c run 0 inputs) (hits_upto c (entered_at c run (length all)) (length c.stages))
    ∙ ap (λ (n : ℕ). n + sum_by f (hits_upto c (entered_at c run (length all)) (length c.stages))) (ap (sum_by f) (hits-items c run 0 inputs))
    ∙ ap (λ (item : ℕ → Option Entered). sum_by f (hits_over c items) + sum_by f (hits_upto c item (length c.stages))) (sym by_age)
    ∙ ap (λ (n : ℕ). sum_by f (hits_over c items) + n) (sym (turn_of_stages f c (items ++ last ∷ [])))
    ∙ sym (hits_turn f c items last)
    ∙ ap (λ (xs : List (Option Entered)). sum_by f (hits_over c xs)) (sym whole)
    ∙ ap (sum_by f) (sym (hits-items c run 0 all)))
