-- Lines put together of parts.
use Rattle.std.proofs.Common.{◌≡◌, ℕ, List, ◌++◌, Result, Ok, Err, OnOk, ap, ◌∙◌, append_assoc, IfOk}
use Rattle.rmt_io.specs.Outside.{SinkState, OnlyPrinted}
use Rattle.rmt_io.proofs.OutsideLaws.{only_printed_trans, printing_failed_later}
use Rattle.rmt_runs.specs.declared.fault.RunFault.{RunFault}
use Rattle.rmt_drive.specs.Telling.{Prints}

-- what an answer gives, and what follows from it
pub ok_then : {A E : Type 0} {P Q : Type 0} (r : Result A E) → (P → Q) → OnOk r P → OnOk r Q
ok_then (Ok x) f h = f h
ok_then (Err e) f h = tt

-- three parts appended one after another
pub three_parts : (a b c d x y z : List ℕ) → b ≡ a ++ x → c ≡ b ++ y → d ≡ c ++ z → d ≡ a ++ (x ++ (y ++ z))
three_parts a b c d x y z first second third =
    third ∙ ap (λ l. l ++ z) (second ∙ ap (λ l. l ++ y) first) ∙ append_assoc (a ++ x) y z ∙ append_assoc a x (y ++ z)

-- two facts of a value that is there give a third
pub both_ok : {A E : Type 0} {P Q R : A → Type 0} (r : Result A E) → ((x : A) → P x → Q x → R x) → IfOk r P → IfOk r Q → IfOk r R
both_ok (Ok x) f p q = f x p q
both_ok (Err e) f p q = tt

-- a call that prints, behind what only printed
pub prints_later : {A : Type 0} {before mid after : SinkState} {result : Result A RunFault} → OnlyPrinted before mid → Prints mid after result → Prints before after result
prints_later {A} {before} {mid} {after} o p =
    record { either = p.either; failed = λ e. printing_failed_later after o (p.failed e); only_printed = only_printed_trans o p.only_printed }
