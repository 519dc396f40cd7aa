-- What is kept of a cell behind a commit has as many bytes as its slot's keys, masks and data.
use Rattle.std.proofs.Common.{◌≡◌, ℕ, Bool, true, false, cond, List, [], ◌∷◌, length, Option, Some, None, refl, ap, ◌∙◌, subst}
use Rattle.std.specs.Prelude.{Contains, sum}
use Rattle.std.proofs.lemmas.Bool.{false≢true}
use Rattle.std.proofs.lemmas.Option.{none-some, same_Some}
use Rattle.rmt_bits.proofs.MemberLaws.{Contains-first, Contains-later}
use Rattle.rmt_bits.specs.Members.{is_among}
use Rattle.rmt_ast.specs.declared.names.TableName.{TableName}
use Rattle.rmt_ast.specs.declared.program.Kind.{Kind}
use Rattle.rmt_ast.specs.declared.program.Kind.TheVariants as kind
use Rattle.rmt_config.specs.declared.config.Memory.{Memory}
use Rattle.rmt_config.specs.declared.config.Memory.TheVariants.{Without, Exact, Ternary}
use Rattle.rmt_config.specs.declared.config.SlotUnit.{SlotUnit}
use Rattle.rmt_config.specs.LaneForm.{bits_of_lanes}
use Rattle.rmt_config.specs.NamesForm.{is_of_kind}
use Rattle.rmt_config.specs.Rooms.{PartAt}
use Rattle.rmt_config.specs.BlockCounts.{divided_up}
use Rattle.rmt_book.specs.declared.kept.Kept.{Kept}
use Rattle.rmt_update.specs.declared.book.placing.Coming.{Coming}
use Rattle.rmt_book.specs.declared.spot.BookSpot.{BookSpot}
use Rattle.rmt_book.specs.Coming.{HasSizes}
use Rattle.rmt_book.specs.Kept.{HasBytes, mask_bytes}
use Rattle.rmt_update.specs.NextKept.{bit_of}
use Rattle.rmt_book.specs.Seen.{is_seen}
use Rattle.rmt_book.specs.Told.{is_whole}
use Rattle.rmt_update.specs.Turning.{AreLike, come_to, is_spot, left_kept}
use Rattle.rmt_update.proofs.SettledPlaces.{same-spot}

-- ---- an entry that comes

masks-are : (k : Kind) (m : Memory) (bits : ℕ) → is_of_kind k m ≡ true → cond (is_whole k) 0 (divided_up bits 8) ≡ mask_bytes bits m
masks-are kind.Keyless m bits is = absurd (false≢true is)
masks-are kind.Exact Without bits is = absurd (false≢true is)
masks-are kind.Exact (Exact k p d w ks rs cs) bits is = refl
masks-are kind.Exact (Ternary d ks rs cs) bits is = absurd (false≢true is)
masks-are kind.Prefix Without bits is = absurd (false≢true is)
masks-are kind.Prefix (Exact k p d w ks rs cs) bits is = absurd (false≢true is)
masks-are kind.Prefix (Ternary d ks rs cs) bits is = refl
masks-are kind.Ternary Without bits is = absurd (false≢true is)
masks-are kind.Ternary (Exact k p d w ks rs cs) bits is = absurd (false≢true is)
masks-are kind.Ternary (Ternary d ks rs cs) bits is = refl

-- bytes of a table's keys and of so many bits of data are those of a part that has such keys and data
pub sizes-bytes : (t : TableName) (p : PartAt) (held : ℕ) (k : Kept) → sum t.keys ≡ bits_of_lanes p.slot.keys → is_of_kind t.kind p.slot.memory ≡ true → held ≡ p.slot.held → HasSizes t held k → HasBytes p.slot k
sizes-bytes t p held k bits of_kind same sizes = record {
  key = sizes.key ∙ ap (λ n. divided_up n 8) bits;
  mask = sizes.mask ∙ masks-are t.kind p.slot.memory (sum t.keys) of_kind ∙ ap (λ n. mask_bytes n p.slot.memory) bits;
  held = sizes.held ∙ ap (λ n. divided_up n 8) same;
}

-- ---- a commit that moves no cell

pub like-bytes : (slot : SlotUnit) (a b : Option Kept) → AreLike a b → ((k : Kept) → b ≡ Some k → HasBytes slot k) → (k : Kept) → a ≡ Some k → HasBytes slot k
like-bytes slot None b like all k is = absurd (none-some k is)
like-bytes slot (Some a) None like all k is = absurd like
like-bytes slot (Some a) (Some b) like all k is =
    let old = all b refl in
    subst (HasBytes slot) (same_Some a k is) (record {
      key = ap (λ (bs : List ℕ). length bs) like.key ∙ old.key;
      mask = ap (λ (bs : List ℕ). length bs) like.mask ∙ old.mask;
      held = ap (λ (bs : List ℕ). length bs) like.held ∙ old.held;
    })

pub left-bytes : (slot : SlotUnit) (odd : Bool) (gone : List ℕ) (o : Option Kept) → ((k : Kept) → o ≡ Some k → HasBytes slot k) → (k : Kept) → left_kept odd gone o ≡ Some k → HasBytes slot k
left-bytes slot odd gone None all k is = absurd (none-some k is)
left-bytes slot odd gone (Some j) all k is = by (is_seen odd j) is
  where
    by : (b : Bool) → cond b (Some (record j { visible = cond (is_among gone j.number) (bit_of odd) 3 })) None ≡ Some k → HasBytes slot k
    by true h = subst (HasBytes slot) (same_Some (record j { visible = cond (is_among gone j.number) (bit_of odd) 3 }) k h) (all j refl)
    by false h = absurd (none-some k h)

-- what comes to a cell, or is left there
pub come-bytes : (slot : SlotUnit) (xs : List Coming) (s : BookSpot) (o : Option Kept) → ((x : Coming) → Contains xs x → x.spot ≡ s → HasBytes slot x.kept) → ((k : Kept) → o ≡ Some k → HasBytes slot k)
    → (k : Kept) → come_to xs s o ≡ Some k → HasBytes slot k
come-bytes slot [] s o comes old k is = old k is
come-bytes slot (x ∷ xs) s o comes old k is =
    by (is_spot x.spot s) refl is (λ o2 kept h. come-bytes slot xs s o2 (λ y there. comes y (Contains-later x xs y there)) kept k h)
  where
    by : (b : Bool) → is_spot x.spot s ≡ b → come_to xs s (cond b (Some x.kept) o) ≡ Some k → ((o2 : Option Kept) → ((j : Kept) → o2 ≡ Some j → HasBytes slot j) → come_to xs s o2 ≡ Some k → HasBytes slot k) → HasBytes slot k
    by true here h rest = rest (Some x.kept) (λ j same. subst (HasBytes slot) (same_Some x.kept j same) (comes x (Contains-first x xs) (same-spot x.spot s here))) h
    by false away h rest = rest o old h
