-- Fronts of a text that a sink gained.
use Rattle.std.proofs.Common.{◌≡◌, ℕ, List, [], ◌++◌, sym, refl, ap, ◌∙◌, append_assoc, append-nil}
use Rattle.rmt_io.specs.Outside.{SinkState, GainedNone}
use Rattle.rmt_runs.specs.Printing.{GainedFront, GainsFront}

-- nothing is a front of each text
pub gained_none : (before after : SinkState) (text : List ℕ) → GainedNone before after → GainedFront before after text
gained_none before after text none tells = record { gained = []; rest = text; text_is = refl; new_is = none tells ∙ sym (append-nil before.bytes) }

-- a text is a front of itself
pub gains_all : (old new text : List ℕ) → new ≡ old ++ text → GainsFront old new text
gains_all old new text is = record { gained = text; rest = []; text_is = sym (append-nil text); new_is = is }

-- a front of a text is one of a longer text
pub gains_more : (old new text last : List ℕ) → GainsFront old new text → GainsFront old new (text ++ last)
gains_more old new text last p =
    record { gained = p.gained; rest = p.rest ++ last; text_is = rw (p.text_is) (append_assoc p.gained p.rest last); new_is = p.new_is }

-- a front of what stands behind a text that was gained whole
pub gains_behind : (old mid new first text : List ℕ) → mid ≡ old ++ first → GainsFront mid new text → GainsFront old new (first ++ text)
gains_behind old mid new first text is p = record {
  gained = first ++ p.gained;
  rest = p.rest;
  text_is = ap (λ l. first ++ l) p.text_is ∙ sym (append_assoc first p.gained p.rest);
  new_is = p.new_is ∙ (ap (λ l. l ++ p.gained) is ∙ append_assoc old first p.gained);
}
