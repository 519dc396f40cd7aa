-- What holds of what is kept holds where the same is kept.
use Rattle.std.proofs.Common.{◌≡◌, ℕ, ◌/◌, ◌%◌, ◌-◌, ◌^◌, Bool, cond, eqb, List, Option, Some, None, refl, sym, ap, ◌∙◌, subst}
use Rattle.std.specs.Prelude.{IsSome, sum}
use Rattle.std.proofs.lemmas.Bool.{false≢true}
use Rattle.rmt_bits.specs.Bits.{number_of}
use Rattle.rmt_ast.specs.declared.entry.Entry.{Entry}
use Rattle.rmt_ast.specs.declared.names.TableName.{TableName}
use Rattle.rmt_config.specs.declared.config.CellNumber.{CellNumber}
use Rattle.rmt_config.specs.Cells.{Content}
use Rattle.rmt_config.specs.LaneForm.{bits_of_lanes}
use Rattle.rmt_config.specs.NamesForm.{args_of_data, params_in, tests_of_key}
use Rattle.rmt_config.specs.Rooms.{PartAt}
use Rattle.rmt_config.specs.RunCells.{written_mask}
use Rattle.rmt_book.specs.declared.kept.Kept.{Kept}
use Rattle.rmt_update.specs.BookStands.{IsKeptOf}
use Rattle.rmt_book.specs.Seen.{is_seen}
use Rattle.rmt_book.specs.Told.{is_whole, told_entry}
use Rattle.rmt_update.specs.Turning.{AreLike, IsLike}

pub like-itself : (k : Kept) → IsLike k k
like-itself k = record { cell = refl; visible = refl; code = refl; key = refl; mask = refl; held = refl; number = refl; rank = refl }

pub alike-itself : (o : Option Kept) → AreLike o o
alike-itself None = tt
alike-itself (Some k) = like-itself k

pub like-some : (a b : Option Kept) → AreLike a b → IsSome a → IsSome b
like-some None b h some = absurd (false≢true some)
like-some (Some a) None h some = absurd h
like-some (Some a) (Some b) h some = refl

-- what is like something
pub like-of : (a b : Option Kept) (k : Kept) → AreLike a b → a ≡ Some k → (j : Kept) × (b ≡ Some j) × IsLike k j
like-of a None k h is = absurd (subst (λ o. AreLike o None) is h)
like-of a (Some j) k h is = (j, refl, subst (λ o. AreLike o (Some j)) is h)

pub like-from : (a b : Option Kept) (k : Kept) → AreLike a b → b ≡ Some k → (j : Kept) × (a ≡ Some j) × IsLike j k
like-from None b k h is = absurd (subst (λ o. AreLike None o) is h)
like-from (Some j) b k h is = (j, refl, subst (λ o. AreLike (Some j) o) is h)

pub like-seen : (odd : Bool) (a b : Kept) → IsLike a b → is_seen odd a ≡ is_seen odd b
like-seen odd a b h = ap (λ v. eqb (v / cond odd 2 1 % 2) 1) h.visible

-- the entry that a cell with these tells
abbrev entry_with : TableName → ℕ → (number : ℕ) (key mask : List ℕ) (rank code : ℕ) (held : List ℕ) → Entry
entry_with t first number key mask rank code held = record {
  table = t.node;
  number = number;
  tests = tests_of_key t.keys (number_of key) (cond (is_whole t.kind) (2 ^ sum t.keys - 1) (number_of mask));
  rank = rank;
  action = code - first;
  args = args_of_data (params_in t (code - first)) (number_of held);
}

pub like-told : (t : TableName) (first : ℕ) (a b : Kept) → IsLike a b → told_entry t first a ≡ told_entry t first b
like-told t first a b h =
    ap (λ n. entry_with t first n a.key.items a.mask.items a.rank a.code a.held.items) h.number ∙ ap (λ ks. entry_with t first b.number ks a.mask.items a.rank a.code a.held.items) h.key
    ∙ ap (λ ms. entry_with t first b.number b.key.items ms a.rank a.code a.held.items) h.mask ∙ ap (λ r. entry_with t first b.number b.key.items b.mask.items r a.code a.held.items) h.rank
    ∙ ap (λ c. entry_with t first b.number b.key.items b.mask.items b.rank c a.held.items) h.code ∙ ap (entry_with t first b.number b.key.items b.mask.items b.rank b.code) h.held

-- a cell holds what is like what is kept of it
pub like-kept : (seed : ℕ) (p : PartAt) (x : Content) (n : CellNumber) (a b : Option Kept) → AreLike a b → IsKeptOf seed p x n b → IsKeptOf seed p x n a
like-kept seed p x n None None h kept = kept
like-kept seed p x n None (Some b) h kept = absurd h
like-kept seed p x n (Some a) None h kept = absurd h
like-kept seed p x n (Some a) (Some b) h kept =
    let k = kept.1 in (
      kept.0,
      record {
        cell = h.cell ∙ k.cell;
        number = h.number ∙ k.number;
        visible = h.visible ∙ k.visible;
        code = h.code ∙ k.code;
        key = ap number_of h.key ∙ k.key;
        mask = ap (written_mask (bits_of_lanes p.slot.keys) p.slot.memory) h.mask ∙ k.mask;
        held = ap number_of h.held ∙ k.held;
      },
      kept.2,
      λ e. kept.3 (sym h.visible ∙ e),
    )
