use Rattle.std.proofs.Common.{true, refl, ap, ◌∙◌, arith}
use Rattle.rmt_runs.proofs.ReaderLaws.{has_ended, has_last, last_taken, no_last}
use Rattle.rmt_runs.specs.ReadsOn.{ReaderState}
use Rattle.rmt_runs.proofs.reader.PacketReader.finish.Goals as goal

pub invariant_of-self : goal.invariant_of-self
invariant_of-self c =
    let i = c.self.inside in
    let going = ap (λ r. r.is_finished) c.self.view_is ∙ c.requires.going_on in
    (omega (arith, c.self.invariant.0, c.finish.ensures.taken), has_ended i.given i.is_finished i.lines c.finish.new.self going c.self.invariant.1 c.finish.ensures.stands)

pub returns-clause-one_more : goal.returns-clause-one_more
returns-clause-one_more c is =
    let i = c.self.inside in
    let going = ap (λ r. r.is_finished) c.self.view_is ∙ c.requires.going_on in
    has_last i.given i.is_finished i.lines c.finish.new.self going c.self.invariant.1 c.finish.ensures.stands (λ t s. c.finish.ensures.last t s is)

pub returns-clause-line : goal.returns-clause-line
returns-clause-line c is limit text rest gave end h =
    let i = c.self.inside in
    let going = ap (λ r. r.is_finished) c.self.view_is ∙ c.requires.going_on in
    let empty = ap (λ r. r.waiting) c.self.view_is ∙ c.requires.empty in
    let new : ReaderState = record { lines = c.finish.new.self; waiting = i.piece; left = i.left; is_finished = true; given = i.given } in
    last_taken limit text rest gave _ new (rw (← c.self.view_is) at h) going empty end refl refl refl c.finish.ensures.stands (λ t s. c.finish.ensures.last t s is)

pub returns-clause-end : goal.returns-clause-end
returns-clause-end c none limit text rest gave end h =
    let going = ap (λ r. r.is_finished) c.self.view_is ∙ c.requires.going_on in
    let empty = ap (λ r. r.waiting) c.self.view_is ∙ c.requires.empty in
    no_last limit text rest gave _ (rw (← c.self.view_is) at h) going empty end (λ t s. c.finish.ensures.none t s none)
