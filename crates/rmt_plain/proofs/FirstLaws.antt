-- A plain run before the first packet.
use Rattle.std.proofs.Common.{◌≡◌, ℕ, zero, suc, ◌+◌, ◌<◌, ◌≤◌, ◌++◌, min, cond, List, [], ◌∷◌, length, get_or, drop, Option, None, refl, sym, ap, subst, ◌∙◌, append-nil, append_assoc, arith}
use Rattle.std.specs.Prelude.{slice_get, unwrap_or, option_map}
use Rattle.std.proofs.lemmas.List.{drop_more, length-drop}
use Rattle.std.proofs.lemmas.Option.{slice_get-get_or}
use Rattle.rmt_ast.specs.declared.program.Program.{Program}
use Rattle.rmt_ast.specs.declared.program.Node.{Node}
use Rattle.rmt_ast.specs.declared.program.Kind.TheVariants.{Keyless}
use Rattle.rmt_ast.specs.declared.program.What.TheVariants.{Apply}
use Rattle.rmt_ast.specs.declared.entry.Entry.{Entry}
use Rattle.rmt_ast.specs.WellFormed.{IsProgram}
use Rattle.rmt_ast.specs.Answers.{counted_numbers, entry_numbers, is_counted}
use Rattle.rmt_plain.specs.declared.lookup.Lookup.{Lookup}
use Rattle.rmt_plain.specs.Running.{IsReady}
use Rattle.rmt_plain.specs.Runnable.{IsRunnable}
use Rattle.rmt_plain.specs.Running.{AreReady, AreLookups, Serves, kind_of, kind_of_node}

pub runnable : (p : Program) → IsProgram p → IsRunnable p
runnable p good = record {
  narrow = λ k d lt. (good.fields.widths k d lt).1;
  headers = λ k d lt. let h = good.headers k _ (slice_get-get_or p.headers k d lt) in record { whole = h.whole_bytes; few = h.is_not_long };
}

-- a node that stands for those past the end of a list
abbrev pub no_node : Node
no_node = record { guard = None; what = Apply 0 }

-- the numbers of a node's entries, and those of the later nodes
counted_numbers-drop : (p : Program) (nodes : List Node) (lists : List (List Entry)) (i : ℕ) (d : Node) (e : List Entry) → i < length nodes → i < length lists
    → counted_numbers p (drop i nodes) (drop i lists) ≡ cond (is_counted p (get_or nodes i d).what) (entry_numbers (get_or lists i e)) [] ++ counted_numbers p (drop (i + 1) nodes) (drop (i + 1) lists)
counted_numbers-drop p nodes lists i d e ln ll =
    ap (λ (ns : List Node). counted_numbers p ns (drop i lists)) (drop_more nodes i d ln) ∙ ap (λ (ls : List (List Entry)). counted_numbers p (get_or nodes i d ∷ drop (i + 1) nodes) ls) (drop_more lists i e ll)

-- the numbers so far and those of a node more
pub counted_numbers-more : (p : Program) (lists : List (List Entry)) (i : ℕ) (e : List Entry) (numbers : List ℕ) → i < length p.nodes → i < length lists
    → (numbers ++ cond (is_counted p (get_or p.nodes i no_node).what) (entry_numbers (get_or lists i e)) []) ++ counted_numbers p (drop (i + 1) p.nodes) (drop (i + 1) lists)
    ≡ numbers ++ counted_numbers p (drop i p.nodes) (drop i lists)
counted_numbers-more p lists i e numbers ln ll =
    append_assoc numbers _ (counted_numbers p (drop (i + 1) p.nodes) (drop (i + 1) lists))
    ∙ ap (λ (ns : List ℕ). numbers ++ ns) (sym (counted_numbers-drop p p.nodes lists i no_node e ln ll))

counted_none : (p : Program) (nodes : List Node) (lists : List (List Entry)) → min (length nodes) (length lists) ≡ 0 → counted_numbers p nodes lists ≡ []
counted_none p [] lists h = refl
counted_none p (n ∷ ns) [] h = refl
counted_none p (n ∷ ns) (l ∷ ls) h = absurd (omega arith)

pub counted_numbers-ended : (p : Program) (numbers : List ℕ) (nodes : List Node) (lists : List (List Entry)) (i : ℕ) → min (length nodes) (length lists) ≤ i → numbers ++ counted_numbers p (drop i nodes) (drop i lists) ≡ numbers
counted_numbers-ended p numbers nodes lists i h =
    let a = length-drop i nodes in
    let b = length-drop i lists in
    ap (λ (ns : List ℕ). numbers ++ ns) (counted_none p (drop i nodes) (drop i lists) (omega arith)) ∙ append-nil numbers

-- one more list
pub ready_push : (p : Program) (n : ℕ) (lists : List (List Entry)) (ls : List Lookup) (es : List Entry) (l : Lookup) → AreReady p n lists ls → IsReady (kind_of_node p (n + length ls)) es l
    → AreReady p n (lists ++ es ∷ []) (ls ++ l ∷ [])
ready_push p n [] [] es l h here = (subst (λ m. IsReady (kind_of_node p m) es l) (omega arith) here, tt)
ready_push p n [] (k ∷ ls) es l h here = absurd h
ready_push p n (xs ∷ lists) [] es l h here = absurd h
ready_push p n (xs ∷ lists) (k ∷ ls) es l h here = (h.0, ready_push p (n + 1) lists ls es l h.1 (subst (λ m. IsReady (kind_of_node p m) es l) (omega arith) here))

serves_at : (p : Program) (m : ℕ) (lists : List (List Entry)) (ls : List Lookup) (n : ℕ) → AreReady p m lists ls → Serves (kind_of_node p (m + n)) (unwrap_or (slice_get lists n) []) (slice_get ls n)
serves_at p m [] [] n h = refl
serves_at p m [] (l ∷ ls) n h = absurd h
serves_at p m (es ∷ lists) [] n h = absurd h
serves_at p m (es ∷ lists) (l ∷ ls) zero h = subst (λ k. IsReady (kind_of_node p k) es l) (omega arith) h.0
serves_at p m (es ∷ lists) (l ∷ ls) (suc n) h =
    subst (λ k. Serves (kind_of_node p k) (unwrap_or (slice_get lists n) []) (slice_get ls n)) (omega arith) (serves_at p (m + 1) lists ls n h.1)

-- ranked lists are ready to be looked up
pub lookups-ready : (p : Program) (lists : List (List Entry)) (ls : List Lookup) → AreReady p 0 lists ls → AreLookups p lists ls
lookups-ready p lists ls h n node e =
    let kind : kind_of_node p n ≡ kind_of p node.what = ap (λ (o : Option Node). unwrap_or (option_map (λ (x : Node). kind_of p x.what) o) Keyless) e in
    subst (λ k. Serves k (unwrap_or (slice_get lists n) []) (slice_get ls n)) (ap (kind_of_node p) (omega arith) ∙ kind) (serves_at p 0 lists ls n h)
