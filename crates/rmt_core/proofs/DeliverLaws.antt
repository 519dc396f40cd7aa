-- A call that wrote files and then printed is what a command gives that does both.
use Rattle.std.proofs.Common.{◌≡◌, ◌≢◌, ◌⊎◌, inl, inr, ⊎_elim, ℕ, List, [], ◌∷◌, ◌++◌, sym, refl, subst, ◌∙◌}
use Rattle.std.specs.Prelude.{IsTrue}
use Rattle.std.specs.List.{All}
use Rattle.std.proofs.lemmas.List.Elements.{All-head, All-same}
use Rattle.rmt_bits.proofs.AllLaws.{All-left, All-right}
use Rattle.rmt_io.specs.Outside.{ShelfState, SinkState, Gained, GainedNone, OnlyPrinted, PrintingFailed, WritingFailed}
use Rattle.rmt_io.proofs.OutsideLaws.{only_printed_refl}
use Rattle.rmt_drive.specs.declared.status.Status.{Status}
use Rattle.rmt_drive.specs.declared.status.Status.TheVariants.{Done, ReadFault, WriteFault, TooLong, NoMemory}
use Rattle.rmt_drive.specs.Files.{Files, Write, all_written}
use Rattle.rmt_drive.specs.Given.{Given, Stores, stored}
use Rattle.rmt_drive.specs.Ends.{Answered, AreSame, BrokenOff, Outside, StoppedBetween, WritesAndPrints, outside}
use Rattle.rmt_runs.specs.Printing.{GainedFront}
use Rattle.rmt_core.specs.Writing.{StoodUpTo}
use Rattle.rmt_runs.proofs.FrontLaws.{gained_none}
use Rattle.rmt_drive.proofs.EndLaws.{answered_where, ends_by}
use Rattle.rmt_core.proofs.CallLaws.{writes_as}
use Rattle.rmt_core.proofs.WritingLaws.{others_stand}

-- ---- a call, by what befell it

-- all files stand, and the lines were printed, or a front of them before the sink failed
pub delivered_whole : (before after : Outside) (writes : List Write) (lines : List ℕ) (result : Status) → lines ≢ [] → after.shelf.tells ≡ before.shelf.tells
    → (IsTrue before.shelf.tells → AreSame after.shelf.files (all_written before.shelf.files writes)) → (result ≡ Done) ⊎ (result ≡ WriteFault)
    → (result ≡ Done → Gained before.sink after.sink lines) → GainedFront before.sink after.sink lines → (result ≡ WriteFault → PrintingFailed before.sink after.sink) → OnlyPrinted before.sink after.sink
    → WritesAndPrints before after (Stores writes lines) result
delivered_whole before after writes lines result some tells whole how printed front failed only = record {
  answered = λ told.
      ends_by before after (Stores writes lines before.shelf.files) result (⊎_elim (λ e. inl (inl (inl e))) (λ e. inr e) how) (
        stored before.shelf.files writes lines,
        refl,
        record {
          status_is = how;
          front = front;
          whole = λ e _. printed e;
          files = λ _. whole told;
          others = λ name none. whole told name ∙ others_stand before.shelf.files writes name none;
          fault = λ e. inr (record { counted = failed e; files = whole told });
          some = λ _. some;
        },
      );
  quiet = λ e. never result how e;
  read_fault = λ e. never result how (inr (inl e));
  write_fault = λ e. inr (failed e);
  steady_write = λ e _. failed e;
  tells = tells;
  only_printed = only;
}
  where
    never : {P : Type 0} (s : Status) → (s ≡ Done) ⊎ (s ≡ WriteFault) → (s ≡ NoMemory) ⊎ (s ≡ ReadFault) ⊎ (s ≡ TooLong) → P
    never s (inl h) (inl e) = absurd (cc)
    never s (inl h) (inr (inl e)) = absurd (cc)
    never s (inl h) (inr (inr e)) = absurd (cc)
    never s (inr h) (inl e) = absurd (cc)
    never s (inr h) (inr (inl e)) = absurd (cc)
    never s (inr h) (inr (inr e)) = absurd (cc)

-- a file that none of these is was none of those before the one that failed
others_before : (before after : Files) (writes : List Write) (name : List ℕ) → BrokenOff before after writes → All (λ (w : Write). w.name ≢ name) writes → after name ≡ before name
others_before before after writes name b none =
    let other : Write → Type 0 = λ w. w.name ≢ name in
    let all = All-same other (b.done ++ (b.failed ∷ b.rest)) writes (sym b.writes_are) none in
    let not = All-head other b.failed b.rest (All-right other b.done (b.failed ∷ b.rest) all) in
    b.others name (λ e. not (sym e)) ∙ others_stand before b.done name (All-left other b.done (b.failed ∷ b.rest) all)

module _ (before after : ShelfState) (sink : SinkState) (writes : List Write) (lines : List ℕ) (tells : after.tells ≡ before.tells) where
  -- a file was not written
  delivered_broken : lines ≢ [] → (IsTrue before.tells → BrokenOff before.files after.files writes) → WritingFailed before after → (IsTrue before.steady → ⊥)
      → WritesAndPrints (outside before sink) (outside after sink) (Stores writes lines) WriteFault
  delivered_broken some broken failed steady = record {
    answered = λ told. (
      stored before.files writes lines,
      refl,
      record {
        status_is = inr refl;
        front = gained_none sink sink lines (λ _. refl);
        whole = λ e. absurd (cc);
        files = λ e. absurd (cc);
        others = λ name none. others_before before.files after.files writes name (broken told) none;
        fault = λ _. inl (record { counted = failed; quiet = λ _. refl; files = broken told });
        some = λ _. some;
      },
    );
    quiet = λ _ _. refl;
    read_fault = λ e. absurd (cc);
    write_fault = λ _. inl (failed, λ _. refl);
    steady_write = λ _ is. absurd (steady is);
    tells = tells;
    only_printed = only_printed_refl sink;
  }

  -- or there was no memory for it
  delivered_part : (IsTrue before.tells → StoodUpTo before.files after.files writes) → WritesAndPrints (outside before sink) (outside after sink) (Stores writes lines) NoMemory
  delivered_part stood = record {
    answered = λ told.
        let up = stood told in
        record {
          files = by up.done up.next up.rest up.writes_are up.files;
          front = λ g h. (g, h, gained_none sink sink g.text (λ _. refl));
          steady = λ _ e. absurd (cc);
        };
    quiet = λ _ _. refl;
    read_fault = λ e. absurd (cc);
    write_fault = λ e. absurd (cc);
    steady_write = λ e. absurd (cc);
    tells = tells;
    only_printed = only_printed_refl sink;
  }
    where
      by : (done : List Write) (next : Write) (rest : List Write) → writes ≡ done ++ (next ∷ rest) → AreSame after.files (all_written before.files done)
          → AreSame after.files before.files ⊎ StoppedBetween (outside before sink) (outside after sink) (Stores writes lines before.files) NoMemory
      by [] next rest is same = inl same
      by (first ∷ done) next rest is same =
          inr (record {
            memory = refl;
            given = stored before.files writes lines;
            is_given = refl;
            files = record { first = first; done = done; next = next; rest = rest; writes_are = is; files = same };
          })

-- some files were written, and then one was not
pub delivered_short : (before after : ShelfState) (sink : SinkState) (writes : List Write) (lines : List ℕ) → after.tells ≡ before.tells → (status : Status) → lines ≢ []
    → (status ≡ WriteFault) ⊎ (status ≡ NoMemory) → (status ≡ NoMemory → IsTrue before.tells → StoodUpTo before.files after.files writes)
    → (status ≡ WriteFault → IsTrue before.tells → BrokenOff before.files after.files writes) → (status ≡ WriteFault → WritingFailed before after)
    → (status ≡ WriteFault → IsTrue before.steady → ⊥) → WritesAndPrints (outside before sink) (outside after sink) (Stores writes lines) status
delivered_short before after sink writes lines tells status some kind stood broken failed steady =
    ⊎_elim (λ e. rw e (delivered_broken before after sink writes lines tells some (broken e) (failed e) (steady e)))
    (λ e. rw e (delivered_part before after sink writes lines tells (stood e))) kind

-- ---- what it is of a command

-- a command that may give this, and whose call printed nothing where memory was wanting
pub delivers : (before after : Outside) (gives : Files → Given → Type 0) (writes : List Write) (lines : List ℕ) (result : Status) → gives before.shelf.files (stored before.shelf.files writes lines)
    → (result ≡ Done) ⊎ (result ≡ WriteFault) ⊎ (result ≡ NoMemory) → WritesAndPrints before after (Stores writes lines) result → WritesAndPrints before after gives result
delivers before after gives writes lines result is kind h = writes_as before after (Stores writes lines) gives result (by result kind (λ e. h.quiet (inl e))) h
  where
    to : (g : Given) → g ≡ stored before.shelf.files writes lines → gives before.shelf.files g
    to g e = subst (gives before.shelf.files) (sym e) is

    by : (s : Status) → (s ≡ Done) ⊎ (s ≡ WriteFault) ⊎ (s ≡ NoMemory) → (s ≡ NoMemory → GainedNone before.sink after.sink)
        → Answered before after (Stores writes lines before.shelf.files) s → Answered before after (gives before.shelf.files) s
    by s kind quiet h = answered_where before after (Stores writes lines before.shelf.files) (gives before.shelf.files) s (⊎_elim (λ e f. cc) (λ rest. ⊎_elim (λ e f. cc) (λ e f. cc) rest) kind) quiet to h
