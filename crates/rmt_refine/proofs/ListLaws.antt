-- From the law for one packet to that for every list of packets.
use Rattle.std.proofs.Common.{◌≡◌, ℕ, ◌+◌, ◌*◌, ◌%◌, ◌^◌, Bool, true, false, ◌==◌, cond, List, [], ◌∷◌, ◌++◌, length, map, refl, sym, ap, ◌∙◌, subst, arith}
use Rattle.std.specs.Prelude.{All, Contains, count_by, filter, sum_by}
use Rattle.std.specs.List.{flat_map, list_any}
use Rattle.std.specs.List.Sorted.{IsStrictlyIncreasing}
use Rattle.std.proofs.lemmas.Bool.{both_ways, eq-eqb}
use Rattle.std.proofs.lemmas.List.Elements.{All-head, All-tail, All-weaker}
use Rattle.std.proofs.lemmas.List.Sums.{sum_by-append, sum_by-cons}
use Rattle.rmt_bits.specs.Packet.{IsPacket, Packet}
use Rattle.rmt_bits.specs.Counts.{Hit, count_for, in_order}
use Rattle.rmt_bits.specs.declared.answer.Answer.{Answer}
use Rattle.rmt_bits.specs.declared.answer.Count.{Count}
use Rattle.rmt_refine.specs.Types.{Program, Config, Stage}
use Rattle.rmt_ast.specs.declared.entry.Entry.{Entry}
use Rattle.rmt_ast.specs.Answers.{answer_of, counted_numbers, counts_of, hits_of}
use Rattle.rmt_ast.specs.EntryLists.{AreEntries}
use Rattle.rmt_ast.specs.WellFormed.{IsProgram}
use Rattle.rmt_config.specs.Life.{Counted}
use Rattle.rmt_config.specs.ChipRun.{Outcome, chip_counts_of, inputs_of, outcome_of, own_look}
use Rattle.rmt_config.proofs.CountLaws.{EndBefore-rising, chip_counts_of-all, hit_from, hits_from}
use Rattle.rmt_config.proofs.RunLaws.{outcomes_of-map}
use Rattle.rmt_refine.specs.declared.map.Map.{Map}
use Rattle.rmt_refine.specs.Carries.{Carries}
use Rattle.rmt_refine.specs.Refined.{AnswersAs}
use Rattle.rmt_refine.specs.RunsAs.{RunsAs, told_by_answer, told_by_outcome}
use Rattle.rmt_refine.proofs.CellNumberLaws.{same_numbers}
use Rattle.rmt_refine.proofs.RefinedLaws.{own_packet}
use Rattle.rmt_refine.proofs.RisingLaws.{order_member}
use Rattle.rmt_refine.proofs.StageLaws.{eqb_false}
use Rattle.rmt_bits.proofs.ListLaws.{sum_by-map}
use Rattle.rmt_bits.proofs.MemberLaws.{Contains-first, Contains-later, list_any-Contains}

-- ---- sums

one_more : (b : Bool) (n y : ℕ) → cond b y 0 + n * y ≡ (cond b 1 0 + n) * y
one_more true n y = omega arith
one_more false n y = omega arith

-- as many times a number as items pass
pub scaled : {X : Type 0} (test : X → Bool) (y : ℕ) (xs : List X) → sum_by (λ x. cond (test x) y 0) xs ≡ count_by test xs * y
scaled test y [] = omega arith
scaled test y (x ∷ xs) =
    sum_by-cons (λ z. cond (test z) y 0) x xs ∙ ap (λ n. cond (test x) y 0 + n) (scaled test y xs) ∙ one_more (test x) (count_by test xs) y
    ∙ ap (λ n. n * y) (sym (sum_by-cons (λ z. cond (test z) 1 0) x xs))

-- a filter keeps all of a number of which what there is passes
kept_all : (test : ℕ → Bool) (n : ℕ) (ms : List ℕ) → (Contains ms n → test n ≡ true) → count_by (λ m. m == n) (filter test ms) ≡ count_by (λ m. m == n) ms
kept_all test n [] pass = refl
kept_all test n (y ∷ ys) pass = by (test y) refl (kept_all test n ys (λ there. pass (Contains-later y ys n there))) ∙ sym (sum_by-cons one y ys)
  where
    one : ℕ → ℕ
    one m = cond (m == n) 1 0

    by : (b : Bool) → test y ≡ b → sum_by one (filter test ys) ≡ sum_by one ys → sum_by one (filter test (y ∷ ys)) ≡ one y + sum_by one ys
    by true e rest = ap (λ b. sum_by one (cond b (y ∷ filter test ys) (filter test ys))) e ∙ sum_by-cons one y (filter test ys) ∙ ap (λ k. one y + k) rest
    by false e rest =
        let none : one y ≡ 0 = ap (λ b. cond b 1 0) (eqb_false y n (λ same. both_ways (test y) e (ap test same ∙ pass (subst (Contains (y ∷ ys)) same (Contains-first y ys))))) in
        ap (λ b. sum_by one (cond b (y ∷ filter test ys) (filter test ys))) e ∙ rest ∙ omega (arith, none)

-- ---- counters of one number

-- two lists of hits count the same for a number
pub record SameFor (n : ℕ) (a b : List Hit) : Type 0 where
  pub packets : count_by (λ (h : Hit). h.number == n) a ≡ count_by (λ (h : Hit). h.number == n) b
  pub bytes : sum_by (λ (h : Hit). cond (h.number == n) h.bytes 0) a ≡ sum_by (λ (h : Hit). cond (h.number == n) h.bytes 0) b

pub same_count : (n : ℕ) (a b : List Hit) → SameFor n a b → count_for a n ≡ count_for b n
same_count n a b same = parts _ _ _ _ (ap (λ x. x % 2 ^ 48) same.packets) (ap (λ x. x % 2 ^ 64) same.bytes)
  where
    parts : (x y z w : ℕ) → x ≡ z → y ≡ w → ◌≡◌ {A = Count} (record { entry = n; packets = x; bytes = y }) (record { entry = n; packets = z; bytes = w })
    parts x y z w e f = ap (λ v. record { entry = n; packets = v; bytes = y }) e ∙ ap (λ v. record { entry = n; packets = z; bytes = v }) f

pub same_append : (n : ℕ) (a b x y : List Hit) → SameFor n a b → SameFor n x y → SameFor n (a ++ x) (b ++ y)
same_append n a b x y one two = record {
  packets = both (λ (h : Hit). cond (h.number == n) 1 0) one.packets two.packets;
  bytes = both (λ (h : Hit). cond (h.number == n) h.bytes 0) one.bytes two.bytes;
}
  where
    both : (g : Hit → ℕ) → sum_by g a ≡ sum_by g b → sum_by g x ≡ sum_by g y → sum_by g (a ++ x) ≡ sum_by g (b ++ y)
    both g e f = sum_by-append g a x ∙ ap (λ k. k + sum_by g x) e ∙ ap (λ k. sum_by g b + k) f ∙ sym (sum_by-append g b y)

pub map_same : {X : Type 0} (f g : ℕ → X) (ns : List ℕ) → ((n : ℕ) → Contains ns n → f n ≡ g n) → map f ns ≡ map g ns
map_same f g [] same = refl
map_same f g (n ∷ ns) same =
    ap (λ x. x ∷ map f ns) (same n (Contains-first n ns)) ∙ ap (λ xs. g n ∷ xs) (map_same f g ns (λ m there. same m (Contains-later n ns m there)))

-- an outcome that answers as the program does counts the same for a number that is counted if it is hit
pub outcome_same : (p : Program) (lists : List (List Entry)) (n : ℕ) (packet : Packet) (o : Outcome) → AnswersAs p lists o (answer_of p lists packet)
    → (Contains (answer_of p lists packet).hits n → list_any (λ m. m == n) (counted_numbers p p.nodes lists) ≡ true) → SameFor n (map (hit_from packet) o.counted) (hits_of p lists packet)
outcome_same p lists n packet o answered counted = record {
  packets = sum_by-map (λ (h : Hit). cond (h.number == n) 1 0) (hit_from packet) o.counted ∙ same ∙ sym (sum_by-map (λ (h : Hit). cond (h.number == n) 1 0) as_hit hits);
  bytes = sum_by-map (λ (h : Hit). cond (h.number == n) h.bytes 0) (hit_from packet) o.counted
      ∙ scaled (λ (x : Counted). x.number == n) (length packet.frame) o.counted
      ∙ ap (λ k. k * length packet.frame) same
      ∙ sym (sum_by-map (λ (h : Hit). cond (h.number == n) h.bytes 0) as_hit hits ∙ scaled (λ m. m == n) (length packet.frame) hits);
}
  where
    hits : List ℕ
    hits = (answer_of p lists packet).hits

    as_hit : ℕ → Hit
    as_hit m = record { number = m; bytes = length packet.frame }

    same : count_by (λ (x : Counted). x.number == n) o.counted ≡ count_by (λ m. m == n) hits
    same = answered.counted n ∙ kept_all (λ k. list_any (λ m. m == k) (counted_numbers p p.nodes lists)) n hits counted

module _ (p : Program) (lists : List (List Entry)) (c : Config) where
  abbrev outcome : Packet → Outcome
  outcome packet = outcome_of (own_look c) c packet

  -- the chip answers a packet as the program does
  abbrev IsAnswered : Packet → Type 0
  IsAnswered packet = AnswersAs p lists (outcome packet) (answer_of p lists packet)

  abbrev is_number : ℕ → Bool
  is_number n = list_any (λ m. m == n) (counted_numbers p p.nodes lists)

  packets_same : (n : ℕ) (packets : List Packet) → is_number n ≡ true → All IsAnswered packets
      → SameFor n (flat_map (hits_from c) packets) (flat_map (hits_of p lists) packets)
  packets_same n [] is all = record { packets = refl; bytes = refl }
  packets_same n (packet ∷ packets) is all =
      same_append n (hits_from c packet) (hits_of p lists packet) (flat_map (hits_from c) packets) (flat_map (hits_of p lists) packets)
      (outcome_same p lists n packet (outcome packet) (All-head IsAnswered packet packets all) (λ there. is))
      (packets_same n packets is (All-tail IsAnswered packet packets all))

  -- Where each packet's hits are counted, the counters are the program's.
  pub counters_law : (m : Map) → AreEntries p lists → Carries p lists m c → (packets : List Packet)
      → All IsAnswered packets → chip_counts_of c (inputs_of c packets) ≡ counts_of p lists packets
  counters_law m entries carries packets all =
      let rising : IsStrictlyIncreasing (map (λ (s : Stage). s.start) c.stages) =
      subst IsStrictlyIncreasing (sym carries.units.starts_are) (λ k lt. carries.edges.distances.rise k (k + 1) (omega arith) lt) in
      let ours = flat_map (hits_from c) packets in
      let theirs = flat_map (hits_of p lists) packets in
      let numbers = counted_numbers p p.nodes lists in
      chip_counts_of-all c packets (EndBefore-rising c.stages rising)
      ∙ ap (map (count_for ours)) (same_numbers p lists m c entries carries)
      ∙ map_same (count_for ours) (count_for theirs) (in_order numbers)
      (λ n there. same_count n ours theirs (packets_same n packets (list_any-Contains (λ m. m == n) numbers n (order_member numbers n there) (eq-eqb n n refl)) all))

  told_same : (o : Outcome) (a : Answer) → o.verdict ≡ a.verdict → o.bytes ≡ a.bytes → told_by_outcome o ≡ told_by_answer a
  told_same o a verdict bytes = ap (λ x. (x, o.bytes)) verdict ∙ ap (λ x. (a.verdict, x)) bytes

  told_all : (packets : List Packet) → All IsAnswered packets → map told_by_outcome (map outcome packets) ≡ map told_by_answer (map (answer_of p lists) packets)
  told_all [] all = refl
  told_all (x ∷ xs) all =
      let first = All-head IsAnswered x xs all in
      ap (λ y. y ∷ map told_by_outcome (map outcome xs)) (told_same (outcome x) (answer_of p lists x) first.verdict first.bytes)
      ∙ ap (λ ys. told_by_answer (answer_of p lists x) ∷ ys) (told_all xs (All-tail IsAnswered x xs all))

  -- Where each packet is answered as the program answers it, so is every list of packets.
  pub packets_law : (m : Map) → AreEntries p lists → Carries p lists m c → ((x : Packet) → IsPacket x → IsAnswered x) → RunsAs p lists c
  packets_law m entries carries answered = record {
    answers = λ packets are. ap (map told_by_outcome) (outcomes_of-map c packets) ∙ told_all packets (All-weaker IsPacket IsAnswered answered packets are);
    counters = λ packets are. counters_law m entries carries packets (All-weaker IsPacket IsAnswered answered packets are);
  }

-- Where a configuration carries a program, every list of packets is answered as the program answers it.
pub lists_law : (p : Program) (lists : List (List Entry)) (m : Map) (c : Config) → IsProgram p → AreEntries p lists → Carries p lists m c → RunsAs p lists c
lists_law p lists m c program entries carries =
    packets_law p lists c m entries carries (λ x is. own_packet p lists m c x program entries carries is.has_bytes is.port_exists)
