use Rattle.rmt_syntax.proofs.Words.{◌≡◌, ◌∙◌, inl, inr, sym, ap, refl, arith, slice_get, slice_get_within, same_Some, Token}
use Rattle.rmt_syntax.proofs.Deciding.{good, bad, verdict, apart, one_tree}
use Rattle.rmt_syntax.proofs.laws.tree_or_fault.Goals as goal

pub returns-clause-some : goal.returns-clause-some
returns-clause-some c tokens ends = elim (verdict tokens ends) [
  | good t is alone none ↦ inl (t, is)
  | bad code k t here f none only ↦ inr (code, t.line, t.column, (k, t, here, refl, refl, f))
]

pub returns-clause-apart : goal.returns-clause-apart
returns-clause-apart c tokens ends t f = apart tokens ends t f

pub returns-clause-one_tree : goal.returns-clause-one_tree
returns-clause-one_tree c tokens t u ends h k = one_tree tokens t u ends h k

pub returns-clause-one_fault : goal.returns-clause-one_fault
returns-clause-one_fault c tokens a b l m j k ends f g = elim (verdict tokens ends) [
  | good t is alone none ↦ absurd (none a f.0 (omega arith) (slice_get_within tokens f.0 f.1 f.2) f.5)
  | bad code at t here h none only ↦
      let x = only a f.0 (omega arith) (slice_get_within tokens f.0 f.1 f.2) f.5 in
      let y = only b g.0 (omega arith) (slice_get_within tokens g.0 g.1 g.2) g.5 in
      let fs : f.1 ≡ t = same_Some f.1 t (sym f.2 ∙ ap (slice_get tokens) x.1 ∙ here) in
      let gs : g.1 ≡ t = same_Some g.1 t (sym g.2 ∙ ap (slice_get tokens) y.1 ∙ here) in
      let same : f.1 ≡ g.1 = fs ∙ sym gs in
      (x.0 ∙ sym y.0, sym f.3 ∙ ap (λ (v : Token). v.line) same ∙ g.3, sym f.4 ∙ ap (λ (v : Token). v.column) same ∙ g.4)
]
