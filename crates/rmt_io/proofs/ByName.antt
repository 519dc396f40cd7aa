-- A map of texts against the files by name that it stands for.
use Rattle.std.proofs.Common.{◌≡◌, ◌≢◌, ℕ, Bool, true, false, cond, List, [], ◌∷◌, Option, Some, None, option_map, string_bytes, String, Vec, Bor, sym, refl, ap, ◌∙◌}
use Rattle.std.specs.Option.{option_copied}
use Rattle.std.specs.Str.{bytes_eq}
use Rattle.std.proofs.lemmas.Slice.Eq.{bytes_eq-Decides}
use Rattle.std.proofs.lemmas.Bool.{false_from_ne_true}
use Rattle.std.specs.Global.{Global}
use Rattle.std.specs.Ordering.{nat_cmp, is_eq}
use Rattle.std.specs.Cmp.Lexicographic.{slice_cmp, nat_list_cmp_total}
use Rattle.std.specs.Cmp.{eq_by_cmp_equiv}
use Rattle.std.specs.Map.{lookup}
use Rattle.std.specs.String.{string_cmp}
use Rattle.std.specs.BTreeMap as tree
use Rattle.std.specs.FinMap as map
use Rattle.std.proofs.lemmas.Map.Text.{btree_map_updates_text, is_eq-slice_cmp}
use Rattle.rmt_io.specs.Files.{Files, text_entries}

abbrev TextMap : Type 0
TextMap = tree.BTreeMap (String Global) (Vec ℕ Global)

kept : (b : Bool) (v : Vec ℕ Global) (o : Option (Vec ℕ Global)) → cond b (Some v.items) (option_map (λ w. w.items) o) ≡ option_map (λ w. w.items) (cond b (Some v) o)
kept true v o = refl
kept false v o = refl

find-text : (q : List ℕ) (es : List (String Global × Vec ℕ Global)) → map.find (slice_cmp nat_cmp) q (text_entries es) ≡ option_map (λ v. v.items) (lookup (λ k. is_eq (slice_cmp nat_cmp q (string_bytes k))) es)
find-text q [] = refl
find-text q (e ∷ es) =
    ap (cond (is_eq (slice_cmp nat_cmp q (string_bytes e.0))) (Some e.1.items)) (find-text q es) ∙ kept (is_eq (slice_cmp nat_cmp q (string_bytes e.0))) e.1 (lookup (λ k. is_eq (slice_cmp nat_cmp q (string_bytes k))) es)

-- the file of a name is what the map has at that text
pub get-text : (m : TextMap) (q : List ℕ) → map.get {R = slice_cmp nat_cmp} (map.from_entries (text_entries m.entries)) q ≡ option_map (λ v. v.items) (tree.get_by_text m q)
get-text m q = map.get-from_entries nat_list_cmp_total (text_entries m.entries) q ∙ find-text q m.entries

-- after an insert at a text, the files are those with that file put
pub put-text : (m n : TextMap) (key : String Global) (v : Vec ℕ Global) → tree.Updates string_cmp m n key (Some v) → map.from_entries {R = slice_cmp nat_cmp} (text_entries n.entries) ≡ map.insert (map.from_entries {R = slice_cmp nat_cmp} (text_entries m.entries)) (string_bytes key) v.items
put-text m n key v u =
    map.same_map nat_list_cmp_total (map.slice_cmp-IsAntisymmetric map.nat_cmp-IsAntisymmetric) _ _
    (λ q.
    get-text n q ∙ ap (option_map (λ w. w.items)) (btree_map_updates_text (string_bytes key) m n (Some v) u q)
    ∙ ap (λ b. option_map (λ w. w.items) (cond b (Some v) (tree.get_by_text m q))) (sym (is_eq-slice_cmp (string_bytes key) q) ∙ (eq_by_cmp_equiv nat_list_cmp_total).symm (string_bytes key) q)
    ∙ sym (kept (is_eq (slice_cmp nat_cmp q (string_bytes key))) v (tree.get_by_text m q))
    ∙ ap (cond (is_eq (slice_cmp nat_cmp q (string_bytes key))) (Some v.items)) (sym (get-text m q))
    ∙ sym (map.get-insert nat_list_cmp_total (map.from_entries (text_entries m.entries)) (string_bytes key) v.items q))

-- a borrowed text, read as its items
pub borrowed_items : (o : Option (Bor (Vec ℕ Global))) → option_map (λ f. f.now.items) o ≡ option_map (λ v. v.items) (option_copied o)
borrowed_items None = refl
borrowed_items (Some x) = refl

-- the file of the name that was put
pub get-put : (m : Files) (k v : List ℕ) → map.get (map.insert m k v) k ≡ Some v
get-put m k v =
    map.get-insert nat_list_cmp_total m k v k ∙ ap (λ b. cond b (Some v) (map.get m k)) ((eq_by_cmp_equiv nat_list_cmp_total).refl k)

-- the file of another name
pub get-put-other : (m : Files) (k v other : List ℕ) → other ≢ k → map.get (map.insert m k v) other ≡ map.get m other
get-put-other m k v other ne =
    map.get-insert nat_list_cmp_total m k v other
    ∙ ap (λ b. cond b (Some v) (map.get m other)) (is_eq-slice_cmp other k ∙ false_from_ne_true (bytes_eq other k) (λ e. ne ((bytes_eq-Decides other k).0 e)))
