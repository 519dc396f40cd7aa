-- Lines of which some were written and the rest waits.
use Rattle.std.proofs.Common.{◌≢◌, ℕ, IsTrue, List, [], ◌∷◌, ◌++◌, sym, refl, ap, ◌∙◌, subst, append_assoc, append-nil}
use Rattle.rmt_io.specs.Outside.{SinkState, Gained}
use Rattle.rmt_runs.specs.Printing.{GainedFront}
use Rattle.rmt_runs.specs.Waiting.{Written}

-- nothing was written of no lines
pub written_none : (now : SinkState) → Written [] [] now now
written_none now = record { gained = []; lines_are = refl; now_is = λ t. sym (append-nil now.bytes); tells = refl }

-- further lines wait
pub written_more : {lines waiting : List ℕ} {before now : SinkState} → Written lines waiting before now → (more : List ℕ) → Written (lines ++ more) (waiting ++ more) before now
written_more {lines} {waiting} w more = record {
  gained = w.gained;
  lines_are = ap (λ l. l ++ more) w.lines_are ∙ append_assoc w.gained waiting more;
  now_is = w.now_is;
  tells = w.tells;
}

-- a sink that tells its bytes still does
pub tells_still : {lines waiting : List ℕ} {before now : SinkState} → Written lines waiting before now → IsTrue before.tells → IsTrue now.tells
tells_still w t = subst IsTrue (sym w.tells) t

-- some of what waits is written
pub written_on : {lines waiting later : List ℕ} {before mid now : SinkState} → Written lines waiting before mid → Written waiting later mid now → Written lines later before now
written_on {lines} {waiting} {later} {before} w v = record {
  gained = w.gained ++ v.gained;
  lines_are = w.lines_are ∙ ap (λ l. w.gained ++ l) v.lines_are ∙ sym (append_assoc w.gained v.gained later);
  now_is = λ t. v.now_is (tells_still w t) ∙ ap (λ l. l ++ v.gained) (w.now_is t) ∙ append_assoc before.bytes w.gained v.gained;
  tells = v.tells ∙ w.tells;
}

-- what was written is a front of the lines
pub written_front : {lines waiting : List ℕ} {before now : SinkState} → Written lines waiting before now → GainedFront before now lines
written_front {lines} {waiting} w t = record { gained = w.gained; rest = waiting; text_is = w.lines_are; new_is = w.now_is t }

-- and so it is where a front of what waits was written
pub front_on : {lines waiting : List ℕ} {before mid : SinkState} → Written lines waiting before mid → (now : SinkState) → GainedFront mid now waiting → GainedFront before now lines
front_on {lines} {waiting} {before} {mid} w now part t = let p = part (tells_still w t) in record {
  gained = w.gained ++ p.gained;
  rest = p.rest;
  text_is = w.lines_are ∙ ap (λ l. w.gained ++ l) p.text_is ∙ sym (append_assoc w.gained p.gained p.rest);
  new_is = p.new_is ∙ ap (λ l. l ++ p.gained) (w.now_is t) ∙ append_assoc before.bytes w.gained p.gained;
}

-- all that waits is written
pub all_on : {lines waiting : List ℕ} {before mid : SinkState} → Written lines waiting before mid → (now : SinkState) → Gained mid now waiting → Gained before now lines
all_on {lines} {waiting} {before} {mid} w now all t =
    all (tells_still w t) ∙ ap (λ l. l ++ waiting) (w.now_is t) ∙ append_assoc before.bytes w.gained waiting ∙ ap (λ l. before.bytes ++ l) (sym w.lines_are)

-- a text with something in it
pub some_more : (a b : List ℕ) → a ≢ [] → a ++ b ≢ []
some_more [] b some = absurd (some refl)
some_more (x ∷ a) b some = λ e. cc

pub some_behind : (a b : List ℕ) → b ≢ [] → a ++ b ≢ []
some_behind [] b some = some
some_behind (x ∷ a) b some = λ e. cc

-- where something waits there are lines
pub some_lines : {lines waiting : List ℕ} {before now : SinkState} → Written lines waiting before now → waiting ≢ [] → lines ≢ []
some_lines {lines} {waiting} w some = λ e. some_behind w.gained waiting some (sym w.lines_are ∙ e)
