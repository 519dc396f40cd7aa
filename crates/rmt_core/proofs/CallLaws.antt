-- What calls of commands leave, one step after another.
use Rattle.std.proofs.Common.{◌≡◌, ◌≢◌, ◌⊎◌, inl, inr, ⊎_elim, ℕ, List, refl, sym, ◌∙◌}
use Rattle.std.specs.Prelude.{IsTrue}
use Rattle.rmt_io.specs.Outside.{ShelfState, SinkState, GainedNone, HasFile, OnlyPrinted, OnlyRead, ReadingFailed}
use Rattle.rmt_io.proofs.OutsideLaws.{only_printed_refl, only_read_refl, only_read_trans, reading_failed_later, writing_failed_later}
use Rattle.rmt_drive.specs.declared.status.Status.{Status}
use Rattle.rmt_drive.specs.declared.status.Status.TheVariants.{ReadFault, WriteFault, TooLong, NoMemory}
use Rattle.rmt_drive.specs.Files.{Files}
use Rattle.rmt_drive.specs.Given.{Given, Opens, Reads}
use Rattle.rmt_drive.specs.Ends.{Answered, Befalls, Outside, ReadsAndPrints, WritesAndPrints, outside}
use Rattle.rmt_drive.specs.Loading.{IsFound, NotOpened, NotRead}
use Rattle.rmt_drive.specs.Telling.{Tells}
use Rattle.rmt_drive.proofs.EndLaws.{no_memory, not_opened, not_read, opens_on, reads_on}

-- what is no fault of writing proves anything of one
pub unread_unwritten : {P : Type 0} (s : Status) → (s ≡ ReadFault) ⊎ (s ≡ TooLong) ⊎ (s ≡ NoMemory) → s ≡ WriteFault → P
unread_unwritten s (inl h) e = absurd (cc)
unread_unwritten s (inr (inl h)) e = absurd (cc)
unread_unwritten s (inr (inr h)) e = absurd (cc)

unopened_unwritten : {P : Type 0} (s : Status) → (s ≡ ReadFault) ⊎ (s ≡ NoMemory) → s ≡ WriteFault → P
unopened_unwritten s (inl h) e = absurd (cc)
unopened_unwritten s (inr h) e = absurd (cc)

pub told_unread : {P : Type 0} (wanted s : Status) → wanted ≢ ReadFault → (s ≡ wanted) ⊎ (s ≡ WriteFault) ⊎ (s ≡ NoMemory) → s ≡ ReadFault → P
told_unread wanted s other (inl h) e = absurd (other (sym h ∙ e))
told_unread wanted s other (inr (inl h)) e = absurd (cc)
told_unread wanted s other (inr (inr h)) e = absurd (cc)

-- what was told, with a status that is neither, did not end by a fault of reading or with a file that is too long
pub told_quiet : {P : Type 0} (wanted s : Status) → wanted ≢ ReadFault → wanted ≢ TooLong → (s ≡ NoMemory → P) → (s ≡ wanted) ⊎ (s ≡ WriteFault) ⊎ (s ≡ NoMemory)
    → (s ≡ NoMemory) ⊎ (s ≡ ReadFault) ⊎ (s ≡ TooLong) → P
told_quiet wanted s unread short quiet kind (inl e) = quiet e
told_quiet wanted s unread short quiet (inl h) (inr (inl e)) = absurd (unread (sym h ∙ e))
told_quiet wanted s unread short quiet (inl h) (inr (inr e)) = absurd (short (sym h ∙ e))
told_quiet wanted s unread short quiet (inr (inl h)) (inr (inl e)) = absurd (cc)
told_quiet wanted s unread short quiet (inr (inl h)) (inr (inr e)) = absurd (cc)
told_quiet wanted s unread short quiet (inr (inr h)) (inr (inl e)) = absurd (cc)
told_quiet wanted s unread short quiet (inr (inr h)) (inr (inr e)) = absurd (cc)

-- a call behind a reading, by what is answered over what there was before it
module _ (before after : Outside) (mid : ShelfState) (gives other : Files → Given → Type 0) (status : Status) (r : OnlyRead before.shelf mid)
    (answered : IsTrue before.shelf.tells → Answered before after (other before.shelf.files) status) where
  pub read_behind : ReadsAndPrints (outside mid before.sink) after gives status → ReadsAndPrints before after other status
  read_behind h = record {
    answered = answered;
    read_fault = λ e. reading_failed_later after.shelf r (h.read_fault e);
    write_fault = h.write_fault;
    only_read = only_read_trans r h.only_read;
    only_printed = h.only_printed;
  }

  pub write_behind : WritesAndPrints (outside mid before.sink) after gives status → WritesAndPrints before after other status
  write_behind h = record {
    answered = answered;
    quiet = h.quiet;
    read_fault = λ e. reading_failed_later after.shelf r (h.read_fault e);
    write_fault = λ e. ⊎_elim (λ failed. inl (writing_failed_later after.shelf r failed.0, failed.1)) (λ failed. inr failed) (h.write_fault e);
    steady_write = λ e steady. h.steady_write e (r.stays_steady steady);
    tells = h.tells ∙ r.tells;
    only_printed = h.only_printed;
  }

module _ (before after : Outside) (mid : ShelfState) (name : List ℕ) (next : Files → List ℕ → Given → Type 0) where
  -- a command that read a file goes on with its bytes
  pub reads_then : (limit : ℕ) (bytes : List ℕ) (status : Status) → OnlyRead before.shelf mid → IsFound before.shelf name limit bytes
      → ReadsAndPrints (outside mid before.sink) after (λ files. next files bytes) status → ReadsAndPrints before after (λ files. Reads files name limit (next files)) status
  reads_then limit bytes status r is h =
      read_behind before after mid (λ files. next files bytes) (λ files. Reads files name limit (next files)) status r (reads_on before after mid name next limit bytes status r is h.answered) h

  -- and so does one that opened a file
  pub opens_then : (status : Status) → OnlyRead before.shelf mid → HasFile before.shelf name mid.rest
      → ReadsAndPrints (outside mid before.sink) after (λ files. next files mid.rest) status → ReadsAndPrints before after (λ files. Opens files name (next files)) status
  opens_then status r is h =
      read_behind before after mid (λ files. next files mid.rest) (λ files. Opens files name (next files)) status r (opens_on before after mid name next status r is h.answered) h

module _ (before : ShelfState) (sink : SinkState) (after : ShelfState) (name : List ℕ) (next : Files → List ℕ → Given → Type 0) where
  -- a command ends where a file isn't read
  pub ends_unread : (limit : ℕ) (status : Status) → OnlyRead before after → NotRead before name limit status → (status ≡ ReadFault → ReadingFailed before after)
      → ReadsAndPrints (outside before sink) (outside after sink) (λ files. Reads files name limit (next files)) status
  ends_unread limit status r why failed = record {
    answered = not_read before sink after name (next before.files) limit status r why;
    read_fault = failed;
    write_fault = unread_unwritten status why.kind;
    only_read = r;
    only_printed = only_printed_refl sink;
  }

  -- or opened
  pub ends_unopened : (status : Status) → OnlyRead before after → NotOpened before name status → (status ≡ ReadFault → ReadingFailed before after)
      → ReadsAndPrints (outside before sink) (outside after sink) (λ files. Opens files name (next files)) status
  ends_unopened status r why failed = record {
    answered = λ _. not_opened before sink after name (next before.files) status r why;
    read_fault = failed;
    write_fault = unopened_unwritten status why.kind;
    only_read = r;
    only_printed = only_printed_refl sink;
  }

-- a command told a last line, with a status that is no fault of the outside
pub ends_told : (shelf : ShelfState) (before after : SinkState) (gives : Files → Given → Type 0) (wanted status : Status) (line : List ℕ) → wanted ≢ ReadFault
    → Tells before after line wanted status → OnlyPrinted before after → Answered (outside shelf before) (outside shelf after) (gives shelf.files) status
    → ReadsAndPrints (outside shelf before) (outside shelf after) gives status
ends_told shelf before after gives wanted status line other t printed answered = record {
  answered = λ _. answered;
  read_fault = told_unread wanted status other t.kind;
  write_fault = t.failed;
  only_read = only_read_refl shelf;
  only_printed = printed;
}

-- a command had no memory to begin with
pub ends_at_once : (o : Outside) (gives : Files → Given → Type 0) → ReadsAndPrints o o gives NoMemory
ends_at_once o gives = record {
  answered = λ _. no_memory o o (gives o.shelf.files) (λ _. refl) (λ _. refl);
  read_fault = λ e. absurd (cc);
  write_fault = λ e. absurd (cc);
  only_read = only_read_refl o.shelf;
  only_printed = only_printed_refl o.sink;
}

-- a command ran over a packet text
pub runs_on : {before after : Outside} {gives : Files → Given → Type 0} {status : Status} → Befalls before after status → (IsTrue before.shelf.tells → Answered before after (gives before.shelf.files) status)
    → ReadsAndPrints before after gives status
runs_on b answered = record { answered = answered; read_fault = b.read_fault; write_fault = b.write_fault; only_read = b.only_read; only_printed = b.only_printed }

-- what is said of a command is said of one that goes on as it
pub goes_on_as : (before after : Outside) (gives other : Files → Given → Type 0) (status : Status)
    → (Answered before after (gives before.shelf.files) status → Answered before after (other before.shelf.files) status) → ReadsAndPrints before after gives status → ReadsAndPrints before after other status
goes_on_as before after gives other status turn h =
    read_behind before after before.shelf gives other status (only_read_refl before.shelf) (λ tells. turn (h.answered tells)) h

-- ---- commands that may write a file

-- one that reads and prints nothing but a last line
pub writes_none : (before after : Outside) (gives : Files → Given → Type 0) (status : Status) → ReadsAndPrints before after gives status
    → ((status ≡ NoMemory) ⊎ (status ≡ ReadFault) ⊎ (status ≡ TooLong) → GainedNone before.sink after.sink) → WritesAndPrints before after gives status
writes_none before after gives status h quiet = record {
  answered = h.answered;
  quiet = quiet;
  read_fault = h.read_fault;
  write_fault = λ e. inr (h.write_fault e);
  steady_write = λ e _. h.write_fault e;
  tells = h.only_read.tells;
  only_printed = h.only_printed;
}

-- one that read a file goes on with its bytes
pub writes_then : (before after : Outside) (mid : ShelfState) (name : List ℕ) (next : Files → List ℕ → Given → Type 0) (limit : ℕ) (bytes : List ℕ) (status : Status)
    → OnlyRead before.shelf mid → IsFound before.shelf name limit bytes
    → WritesAndPrints (outside mid before.sink) after (λ files. next files bytes) status → WritesAndPrints before after (λ files. Reads files name limit (next files)) status
writes_then before after mid name next limit bytes status r is h =
    write_behind before after mid (λ files. next files bytes) (λ files. Reads files name limit (next files)) status r (reads_on before after mid name next limit bytes status r is h.answered) h

-- what is said of a command is said of one that goes on as it
pub writes_as : (before after : Outside) (gives other : Files → Given → Type 0) (status : Status)
    → (Answered before after (gives before.shelf.files) status → Answered before after (other before.shelf.files) status) → WritesAndPrints before after gives status → WritesAndPrints before after other status
writes_as before after gives other status turn h =
    write_behind before after before.shelf gives other status (only_read_refl before.shelf) (λ tells. turn (h.answered tells)) h
