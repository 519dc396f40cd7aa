-- Texts that begin with the lines of a run so far.
use Rattle.std.proofs.Common.{◌≡◌, ℕ, List, ◌++◌, sym, ap, ◌∙◌, append_assoc}
use Rattle.rmt_io.specs.Outside.{SinkState}
use Rattle.rmt_runs.specs.Printing.{GainedFront}
use Rattle.rmt_runs.specs.declared.fault.RunFault.{RunFault}
use Rattle.rmt_runs.specs.Cuts.{Cut}
use Rattle.rmt_runs.proofs.WaitingLaws.{some_more}

-- a text begins with these lines
pub record Begins (lines text : List ℕ) : Type 0 where
  pub more : List ℕ
  pub text_is : text ≡ lines ++ more

pub begins_then : {lines text all : List ℕ} → Begins lines text → Begins text all → Begins lines all
begins_then {lines} {text} {all} a b = record { more = a.more ++ b.more; text_is = b.text_is ∙ ap (λ l. l ++ b.more) a.text_is ∙ append_assoc lines a.more b.more }

-- what is cut off of lines is cut off of a text that begins with them
pub front_begins : {lines text : List ℕ} → Begins lines text → (before now : SinkState) → GainedFront before now lines → GainedFront before now text
front_begins {lines} {text} b before now front t = let p = front t in record {
  gained = p.gained;
  rest = p.rest ++ b.more;
  text_is = b.text_is ∙ ap (λ l. l ++ b.more) p.text_is ∙ append_assoc p.gained p.rest b.more;
  new_is = p.new_is;
}

pub cut_begins : {lines text : List ℕ} {before now : SinkState} {fault : RunFault} → Begins lines text → Cut lines before now fault → Cut text before now fault
cut_begins {lines} {text} {before} {now} b cut = record {
  front = front_begins b before now cut.front;
  some = λ e. λ none. some_more lines b.more (cut.some e) (sym b.text_is ∙ none);
}
