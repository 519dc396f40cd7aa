-- Which of two entries that match comes first.
use Rattle.std.proofs.Common.{◌≡◌, ◌≢◌, ℕ, ◌<◌, true, ◌&&◌, ◌==◌, List, Some, length, map, get_or, refl, sym, ap, ◌∙◌, subst, ◌⊎◌, inl, inr, arith}
use Rattle.std.specs.Prelude.{AllPairs, Contains, nat_lt}
use Rattle.std.specs.List.{AllZip}
use Rattle.std.proofs.lemmas.Bool.{lt-ltb, or_left}
use Rattle.std.proofs.lemmas.Option.{same_Some, slice_get-get_or}
use Rattle.rmt_refine.specs.Types.{Program, Test, Table, Kind}
use Rattle.rmt_ast.specs.declared.program.Kind.TheVariants.{Keyless, Exact, Prefix, Ternary}
use Rattle.rmt_ast.specs.declared.entry.Entry.{Entry}
use Rattle.rmt_ast.specs.EntryLists.{AreTableEntries, HasKeysOnce, HasRank, IsEntry, IsPrefix, IsWhole, terms_of}
use Rattle.rmt_ast.specs.Lookup.{matches, precedes}
use Rattle.rmt_ast.specs.RowOrder.{goes_first}
use Rattle.rmt_ast.specs.State.{width_of}
use Rattle.rmt_ast.specs.WellFormed.{IsTest}
use Rattle.rmt_refine.proofs.KeyLaws.{prefix_masks, same_tests, whole_masks}
use Rattle.std.proofs.lemmas.List.Elements.{All-contains}
use Rattle.rmt_pack.proofs.RankLaws.{from_earlier}

-- ---- the order is strict

-- an entry that is found before another goes first
pub goes_where_precedes : (kind : Kind) (a b : Entry) → precedes kind a b ≡ true → goes_first kind a b ≡ true
goes_where_precedes Keyless a b h = h
goes_where_precedes Exact a b h = h
goes_where_precedes Prefix a b h = or_left (nat_lt b.rank a.rank) ((a.rank == b.rank) && nat_lt a.number b.number) h
goes_where_precedes Ternary a b h = h

-- ---- of two entries that match one comes first, or they are the same

pub compare : (i j : ℕ) → (i < j) ⊎ ((j < i) ⊎ (i ≡ j))
compare i j = grind arith

same_item : {X : Type 0} (xs : List X) (i : ℕ) (d x : X) → i < length xs → get_or xs i x ≡ x → get_or xs i d ≡ x
same_item xs i d x lt e = same_Some (get_or xs i d) x (sym (slice_get-get_or xs i d lt) ∙ slice_get-get_or xs i x lt ∙ ap Some e)

-- of two items one stands before the other, or they are one
pub two_items : {X : Type 0} (R : X → X → Type 0) (xs : List X) (a b : X) → AllPairs R xs → Contains xs a → Contains xs b → R a b ⊎ (R b a ⊎ (a ≡ b))
two_items R xs a b pairs in_a in_b = elim (compare in_a.0 in_b.0) [
  | inl lt ↦ inl (subst (λ y. R y b) in_a.2 (subst (R (get_or xs in_a.0 a)) (same_item xs in_b.0 a b in_b.1 in_b.2) (pairs in_a.0 in_b.0 a lt in_b.1)))
  | inr (inl lt) ↦ inr (inl (subst (λ y. R y a) in_b.2 (subst (R (get_or xs in_b.0 b)) (same_item xs in_a.0 b a in_a.1 in_a.2) (pairs in_b.0 in_a.0 b lt in_a.1))))
  | inr (inr e) ↦ inr (inr (sym in_a.2 ∙ same_item xs in_a.0 a b in_a.1 (ap (λ i. get_or xs i b) e ∙ in_b.2)))
]

-- two members of a list in which no two stand so to each other
pub pairs_same : {X : Type 0} (R : X → X → Type 0) (xs : List X) (a b : X) → AllPairs R xs → Contains xs a → Contains xs b → (R a b → ⊥) → (R b a → ⊥) → a ≡ b
pairs_same R xs a b pairs ca cb not_ab not_ba = elim (two_items R xs a b pairs ca cb) [
  | inl first ↦ absurd (not_ab first)
  | inr (inl later) ↦ absurd (not_ba later)
  | inr (inr is) ↦ is
]

-- which of two comes first
abbrev pub Ordered : Kind → Entry → Entry → Type 0
Ordered kind a b = (a ≡ b) ⊎ ((precedes kind a b ≡ true) ⊎ (precedes kind b a ≡ true))

same_keys : (p : Program) (s key : List ℕ) (es : List Entry) (M : ℕ → Test → Type 0) (masks : (w : ℕ) (t u : Test) → M w t → M w u → t.mask ≡ u.mask)
    (a b : Entry) → AllPairs (λ (x y : Entry). x.tests ≢ y.tests) es → Contains es a → Contains es b
    → AllZip IsTest (map (width_of p) key) a.tests → AllZip IsTest (map (width_of p) key) b.tests
    → AllZip M (map (width_of p) key) a.tests → AllZip M (map (width_of p) key) b.tests → matches key s a ≡ true → matches key s b ≡ true → a ≡ b
same_keys p s key es M masks a b once ca cb ta tb ma mb pa pb =
    let same = same_tests p s key M masks a.tests b.tests ta tb ma mb pa pb in
    pairs_same (λ (x y : Entry). x.tests ≢ y.tests) es a b once ca cb (λ ne. ne same) (λ ne. ne (sym same))

ordered : (kind : Kind) (p : Program) (s key : List ℕ) (es : List Entry) (a b : Entry) → HasKeysOnce kind es → AllPairs (λ (x y : Entry). x.number < y.number) es
    → Contains es a → Contains es b
    → AllZip IsTest (map (width_of p) key) a.tests → AllZip IsTest (map (width_of p) key) b.tests
    → HasRank kind (map (width_of p) key) a → HasRank kind (map (width_of p) key) b
    → matches key s a ≡ true → matches key s b ≡ true → (kind ≡ Keyless → ⊥) → Ordered kind a b
ordered Keyless p s key es a b once rising ca cb ta tb ra rb pa pb keyed = absurd (keyed refl)
ordered Exact p s key es a b once rising ca cb ta tb ra rb pa pb keyed =
    inl (same_keys p s key es IsWhole whole_masks a b once ca cb ta tb ra.0 rb.0 pa pb)
ordered Prefix p s key es a b once rising ca cb ta tb ra rb pa pb keyed =
    elim (compare a.rank b.rank) [
      | inl lt ↦ inr (inr (lt-ltb a.rank b.rank lt))
      | inr (inl lt) ↦ inr (inl (lt-ltb b.rank a.rank lt))
      | inr (inr e) ↦
          inl (same_keys p s key es (IsPrefix b.rank) (prefix_masks b.rank) a b once ca cb ta tb
          (subst (λ r. AllZip (IsPrefix r) (map (width_of p) key) a.tests) e ra) rb pa pb)
    ]
ordered Ternary p s key es a b once rising ca cb ta tb ra rb pa pb keyed =
    elim (compare a.rank b.rank) [
      | inl lt ↦ inr (inl (from_earlier a b (inl lt)))
      | inr (inl lt) ↦ inr (inr (from_earlier b a (inl lt)))
      | inr (inr e) ↦ elim (compare a.number b.number) [
        | inl lt ↦ inr (inl (from_earlier a b (inr (e, lt))))
        | inr (inl lt) ↦ inr (inr (from_earlier b a (inr (sym e, lt))))
        | inr (inr same) ↦
            inl (pairs_same (λ (x y : Entry). x.number < y.number) es a b rising ca cb (λ lt. omega (arith, same, lt)) (λ lt. omega (arith, same, lt)))
      ]
    ]

-- of two entries of a table that both match a state
pub are_ordered : (p : Program) (n : ℕ) (t : Table) (es : List Entry) (s : List ℕ) (a b : Entry) → AreTableEntries n es (terms_of p t) → (t.kind ≡ Keyless → ⊥)
    → Contains es a → Contains es b → matches t.key s a ≡ true → matches t.key s b ≡ true → Ordered t.kind a b
are_ordered p n t es s a b are keyed ca cb pa pb =
    let ia : IsEntry n (terms_of p t) a = All-contains (IsEntry n (terms_of p t)) es a are.each ca in
    let ib : IsEntry n (terms_of p t) b = All-contains (IsEntry n (terms_of p t)) es b are.each cb in
    ordered t.kind p s t.key es a b are.keys_once are.rising ca cb ia.tests ib.tests ia.rank ib.rank pa pb keyed
