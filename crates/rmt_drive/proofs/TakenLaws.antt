-- A changed cell of a commit, with as many bytes as its slot asks, is one that the chip takes.
use Rattle.std.proofs.Common.{◌≡◌, ◌≢◌, ℕ, ◌+◌, ◌*◌, ◌<◌, cond, List, [], ◌∷◌, length, inl, inr, refl, sym, ap, ◌∙◌, subst, arith}
use Rattle.std.specs.Prelude.{All, Contains}
use Rattle.std.proofs.lemmas.Bool.{ne_eqb}
use Rattle.std.proofs.lemmas.List.Elements.{All-contains_itself, All-weaker, All-contains}
use Rattle.rmt_bits.specs.Bits.{number_of}
use Rattle.rmt_memory.specs.Writable.{EntryTaken, IsTaken, MaskTaken}
use Rattle.rmt_config.specs.declared.cell_write.CellWrite.{CellWrite}
use Rattle.rmt_config.specs.declared.config.Config.{Config}
use Rattle.rmt_config.specs.declared.config.Memory.{Memory}
use Rattle.rmt_config.specs.declared.config.SlotUnit.{SlotUnit}
use Rattle.rmt_config.specs.declared.config.Memory.TheVariants.{Without, Exact, Ternary}
use Rattle.rmt_config.specs.Cells.{Content}
use Rattle.rmt_config.specs.Commits.{AreWrites}
use Rattle.rmt_config.specs.LaneForm.{bits_of_lanes}
use Rattle.rmt_config.specs.RunCells.{RunCells, emptied, written_content, written_mask}
use Rattle.rmt_update.specs.Fitting.{AreFit, HasEntry, IsFitting, MaskFits}
use Rattle.rmt_book.specs.Kept.{AreBytesOf, mask_bytes}
use Rattle.rmt_update.specs.Planned.{HasLengths}
use Rattle.rmt_update.proofs.FitWrites.{written_fits}
use Rattle.rmt_update.proofs.WritesLaws.{said_number}

no-bytes : (bytes : List ℕ) → length bytes ≡ 0 → bytes ≡ []
no-bytes [] h = refl
no-bytes (b ∷ bytes) h = absurd (omega (arith, h))

-- a mask by its bytes
mask-taken : (bits : ℕ) (m : Memory) (mask : List ℕ) → length mask ≡ mask_bytes bits m → MaskFits bits m (written_mask bits m mask) → MaskTaken bits m mask
mask-taken bits Without mask size fits = tt
mask-taken bits (Exact k p d w ks rs cs) mask size fits = no-bytes mask size
mask-taken bits (Ternary d ks rs cs) mask size fits = record { size = size; small = fits }

-- a changed cell of a slot
module _ (slot : SlotUnit) (w : CellWrite) (low : w.visible < 4) (bytes : w.visible ≢ 0 → AreBytesOf slot w.key w.mask w.held) (number : ℕ) (fit : IsFitting slot (written_content w slot) number) where
  -- what it puts of an entry
  abbrev entry : Content
  entry = record {
    head = 1 + 2 * w.visible + 8 * w.code;
    key = number_of w.key;
    mask = written_mask (bits_of_lanes slot.keys) slot.memory w.mask;
    held = number_of w.held;
  }

  entry-taken : w.visible ≢ 0 → EntryTaken slot w
  entry-taken some = by fit
    where
      is : written_content w slot ≡ entry
      is = ap (λ b. cond b (emptied slot) entry) (ne_eqb w.visible 0 some)

      taken : HasEntry slot entry → EntryTaken slot w
      taken h =
          let head = h.head in
          let few = h.visible_small in
          let code = h.code_small in
          let sizes = bytes some in
          record {
            code = omega (arith, head, low, few, code);
            key = record { size = sizes.key; small = h.key };
            mask = mask-taken (bits_of_lanes slot.keys) slot.memory w.mask sizes.mask h.mask;
            held = record { size = sizes.held; small = h.held };
          }

      by : IsFitting slot (written_content w slot) number → EntryTaken slot w
      by (inl none) = let head : 1 + 2 * w.visible + 8 * w.code ≡ 0 = ap (λ (x : Content). x.head) (sym is ∙ none.0) in absurd (omega (arith, head))
      by (inr h) = taken (subst (HasEntry slot) is h)

-- changed cells by which cells become others
pub writes_taken : (c : Config) (cells next : RunCells) (writes : List CellWrite) → AreFit c next → AreWrites c cells next writes → All (HasLengths c) writes → All (IsTaken c.stages) writes
writes_taken c cells next writes fit are sizes = All-weaker (Contains writes) (IsTaken c.stages) one writes (All-contains_itself writes)
  where
    one : (w : CellWrite) → Contains writes w → IsTaken c.stages w
    one w there =
        let has = All-contains (HasLengths c) writes w sizes there in
        let put = written_fits c cells next writes fit are w there has.slot has.there in
        record {
          slot = has.slot;
          there = has.there;
          taken = record { cell = put.0; visible = has.visible; entry = entry-taken has.slot w has.visible has.bytes (said_number w) put.1 };
        }
