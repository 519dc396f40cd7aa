-- The order that entries keep that come to a table, one after another.
use Rattle.std.proofs.Common.{◌≡◌, ◌⊎◌, ℕ, zero, suc, ◌<◌, ◌==◌, ◌||◌, true, not, ◌&&◌, List, [], ◌∷◌, ◌++◌, append_assoc, drop, get_or, length, length-append, map, Option, Some, None, option_map, refl, sym, ap, ◌∙◌, subst, inl, inr, arith}
use Rattle.std.specs.Prelude.{Contains, fold, option_and_then, slice_get}
use Rattle.std.proofs.lemmas.Bool.{and_parts, eq-eqb}
use Rattle.std.proofs.lemmas.List.{append-nil, length-map}
use Rattle.std.proofs.lemmas.List.Elements.{All-contains, Contains-append_left, Contains-append_right}
use Rattle.std.proofs.lemmas.Option.{none-some, same_Some}
use Rattle.rmt_bits.proofs.AllLaws.{All-from_test}
use Rattle.rmt_bits.proofs.ListLaws.{find-passes}
use Rattle.rmt_bits.proofs.MemberLaws.{Contains-first}
use Rattle.rmt_bits.proofs.TestLaws.{then_so}
use Rattle.rmt_ast.specs.declared.entry.Entry.{Entry}
use Rattle.rmt_ast.specs.declared.names.Names.{Names}
use Rattle.rmt_ast.specs.declared.program.Kind.{Kind}
use Rattle.rmt_ast.specs.EntryLists.{Terms}
use Rattle.rmt_ast.specs.NameRules.{terms_named}
use Rattle.rmt_ast.specs.RowOrder.{goes_first}
use Rattle.rmt_config.specs.declared.config.Config.{Config}
use Rattle.rmt_config.specs.Commits.{Placed, is_free, keeps_order, rooms_of, with_coming}
use Rattle.rmt_config.specs.Rooms.{Room, is_before}
use Rattle.rmt_config.specs.RunCells.{RunCells}
use Rattle.rmt_update.proofs.ComesLaws.{comes, none-comes, room_for}

-- two entries of a table stand in their order
abbrev pub InOrder : Kind → Placed → Placed → Type 0
InOrder k p q = p.entry.table ≡ q.entry.table → (goes_first k p.entry q.entry ≡ true → is_before p.room q.room ≡ true) × (goes_first k q.entry p.entry ≡ true → is_before q.room p.room ≡ true)

split-same : {X : Type 0} (xs ys zs ws : List X) → xs ++ ys ≡ zs ++ ws → length ys ≡ length ws → (xs ≡ zs) × (ys ≡ ws)
split-same [] ys [] ws e len = (refl, e)
split-same [] ys (z ∷ zs) ws e len = absurd (let l = ap length e in let m = length-append (z ∷ zs) ws in omega (arith, l, m, len))
split-same (x ∷ xs) ys [] ws e len = absurd (let l = ap length e in let m = length-append (x ∷ xs) ys in omega (arith, l, m, len))
split-same (x ∷ xs) ys (z ∷ zs) ws e len =
    let rest = split-same xs ys zs ws (ap (drop 1) e) len in
    (ap (λ l. get_or l 0 x ∷ xs) e ∙ ap (λ l. z ∷ l) rest.0, rest.1)

module _ (c : Config) (names : Names) (cells : RunCells) where
  -- each entry keeps the order among those before it
  abbrev pub AllKeep : List Placed → List Placed → Type 0
  AllKeep ps [] = Unit {0}
  AllKeep ps (q ∷ qs) = ((t : Terms) → terms_named names q.entry.table ≡ Some t → keeps_order t.kind ps q.entry q.room ≡ true) × AllKeep (ps ++ q ∷ []) qs

  pub record HaveCome (ps : List Placed) (es : List Entry) (zs : List Placed) : Type 0 where
    pub tail : List Placed
    pub all : zs ≡ ps ++ tail
    pub entries : map (λ (q : Placed). q.entry) tail ≡ es
    pub keep : AllKeep ps tail

  pub have-come : (es : List Entry) (ps zs : List Placed) → fold (with_coming c names cells) (Some ps) es ≡ Some zs → HaveCome ps es zs
  have-come [] ps zs e = record { tail = []; all = sym (same_Some ps zs e) ∙ sym (append-nil ps); entries = refl; keep = tt }
  have-come (e ∷ es) ps zs h = by (terms_named names e.table) refl (λ q. have-come es (ps ++ q ∷ []) zs)
    where
      never : (o : Option (List Placed)) → with_coming c names cells (Some ps) e ≡ o → o ≡ None → ⊥
      never o is none = none-some zs (sym (ap (λ p. fold (with_coming c names cells) p es) (is ∙ none) ∙ none-comes c names cells es) ∙ h)

      Later : Type 0
      Later = (q : Placed) → fold (with_coming c names cells) (Some (ps ++ q ∷ [])) es ≡ Some zs → HaveCome (ps ++ q ∷ []) es zs

      at : (t : Terms) → terms_named names e.table ≡ Some t → (r : Option Room) → room_for c names cells ps t e ≡ r → Later → HaveCome ps (e ∷ es) zs
      at t terms None found later = absurd (never None (comes c names cells ps e t None terms found) refl)
      at t terms (Some room) found later =
          let q : Placed = record { entry = e; room = room } in
          let rest = later q (sym (ap (λ p. fold (with_coming c names cells) p es) (comes c names cells ps e t (Some room) terms found)) ∙ h) in
          record {
            tail = q ∷ rest.tail;
            all = rest.all ∙ append_assoc ps (q ∷ []) rest.tail;
            entries = ap (λ xs. e ∷ xs) rest.entries;
            keep = (λ u is. subst (λ (v : Terms). keeps_order v.kind ps e room ≡ true) (same_Some t u (sym terms ∙ is)) (and_parts _ _ (find-passes (λ r. is_free cells ps r && keeps_order t.kind ps e r) (rooms_of c t cells e) room found)).1, rest.keep);
          }

      by : (o : Option Terms) → terms_named names e.table ≡ o → Later → HaveCome ps (e ∷ es) zs
      by None is later =
          absurd (never None (ap (λ (u : Option Terms). option_map (λ room. ps ++ record { entry = e; room = room } ∷ []) (option_and_then (λ (t : Terms). room_for c names cells ps t e) u)) is) refl)
      by (Some t) is later = at t is (room_for c names cells ps t e) refl later

  -- of each entry that comes and each before it
  pub keep-at : (qs ps : List Placed) → AllKeep ps qs → (i : ℕ) (q : Placed) (t : Terms) → slice_get qs i ≡ Some q → terms_named names q.entry.table ≡ Some t
      → (p : Placed) → Contains ps p ⊎ ((j : ℕ) × (j < i) × (slice_get qs j ≡ Some p)) → InOrder t.kind p q
  keep-at [] ps keep i q t at terms p h = absurd (none-some q at)
  keep-at (x ∷ qs) ps keep zero q t at terms p (inr h) = absurd (let lt = h.1 in omega (arith, lt))
  keep-at (x ∷ qs) ps keep zero q t at terms p (inl there) = λ table.
      let same : x ≡ q = same_Some x q at in
      let own : keeps_order t.kind ps q.entry q.room ≡ true = subst (λ (z : Placed). keeps_order t.kind ps z.entry z.room ≡ true) same (keep.0 t (ap (λ (z : Placed). terms_named names z.entry.table) same ∙ terms)) in
      let one =
      All-contains (λ (z : Placed). (not (z.entry.table == q.entry.table) || ((not (goes_first t.kind z.entry q.entry) || is_before z.room q.room) && (not (goes_first t.kind q.entry z.entry) || is_before q.room z.room))) ≡ true) ps p
      (All-from_test (λ (z : Placed). (not (z.entry.table == q.entry.table) || ((not (goes_first t.kind z.entry q.entry) || is_before z.room q.room) && (not (goes_first t.kind q.entry z.entry) || is_before q.room z.room))) ≡ true)
      (λ (z : Placed). not (z.entry.table == q.entry.table) || ((not (goes_first t.kind z.entry q.entry) || is_before z.room q.room) && (not (goes_first t.kind q.entry z.entry) || is_before q.room z.room)))
      (λ z e. e) ps own) there in
      let two = and_parts _ _ (then_so (p.entry.table == q.entry.table) _ one (eq-eqb p.entry.table q.entry.table table)) in
      (then_so (goes_first t.kind p.entry q.entry) (is_before p.room q.room) two.0, then_so (goes_first t.kind q.entry p.entry) (is_before q.room p.room) two.1)
  keep-at (x ∷ qs) ps keep (suc i) q t at terms p (inl there) = keep-at qs (ps ++ x ∷ []) keep.1 i q t at terms p (inl (Contains-append_left ps (x ∷ []) p there))
  keep-at (x ∷ qs) ps keep (suc i) q t at terms p (inr (zero, lt, is)) =
      keep-at qs (ps ++ x ∷ []) keep.1 i q t at terms p (inl (Contains-append_right ps (x ∷ []) p (subst (Contains (x ∷ [])) (same_Some x p is) (Contains-first x []))))
  keep-at (x ∷ qs) ps keep (suc i) q t at terms p (inr (suc j, lt, is)) = keep-at qs (ps ++ x ∷ []) keep.1 i q t at terms p (inr (j, omega (arith, lt), is))

  -- those that come behind others, where all are these
  pub all-keep : (es : List Entry) (ps ss qs : List Placed) → fold (with_coming c names cells) (Some ps) es ≡ Some (ss ++ qs) → map (λ (q : Placed). q.entry) qs ≡ es → AllKeep ss qs
  all-keep es ps ss qs e entries =
      let h = have-come es ps (ss ++ qs) e in
      let counts : length qs ≡ length h.tail =
      sym (length-map qs (λ (q : Placed). q.entry)) ∙ ap length (entries ∙ sym h.entries) ∙ length-map h.tail (λ (q : Placed). q.entry) in
      let same = split-same ss qs ps h.tail h.all counts in
      subst (λ l. AllKeep l qs) (sym same.0) (subst (AllKeep ps) (sym same.1) h.keep)
