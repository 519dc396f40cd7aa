-- What nodes that are not read to their end have read, and have to read.
use Rattle.rmt_syntax.proofs.Words.{◌≡◌, ◌∙◌, sym, ap, refl, List, [], ◌∷◌, ◌++◌, append_assoc, append-nil, append-nil_left, append-nil_right, map, flat_map, fold, flat_map-append, Rule, Part, Phrase, Done, Mark, opens, shuts, marks, Goal, part, phrase, shut, frame_marks, frame_goals, outer_goals}
use Rattle.rmt_syntax.specs.declared.tree.Tree.{Tree, Many}
use Rattle.rmt_syntax.specs.declared.reader.Frame.{Frame}
use Rattle.rmt_syntax.proofs.MarkLaws.{marks_many}

-- a node that is read to its end stands in the one around it
pub closing : (fs gs : List Frame) (o b inner : Frame) (ps : List Tree) → gs ≡ fs ++ o ∷ [] → ps ≡ o.parts ++ Many b.rule b.parts ∷ [] → b ≡ inner
    → flat_map frame_marks fs ++ (opens o.rule ∷ flat_map marks ps) ≡ (flat_map frame_marks gs ++ frame_marks inner) ++ shuts inner.rule ∷ []
closing fs gs o b inner ps e1 e2 eb =
    let mine : List Mark = opens b.rule ∷ (flat_map marks b.parts ++ shuts b.rule ∷ []) in
    let inside : flat_map marks ps ≡ flat_map marks o.parts ++ mine =
    ap (flat_map marks) e2 ∙ flat_map-append marks o.parts (Many b.rule b.parts ∷ []) ∙ ap (λ ms. flat_map marks o.parts ++ ms) (append-nil (marks (Many b.rule b.parts)) ∙ marks_many b.rule b.parts) in
    let around : flat_map frame_marks gs ≡ flat_map frame_marks fs ++ (opens o.rule ∷ flat_map marks o.parts) =
    ap (flat_map frame_marks) e1 ∙ flat_map-append frame_marks fs (o ∷ []) ∙ ap (λ ms. flat_map frame_marks fs ++ ms) (append-nil (frame_marks o)) in
    ap (λ ms. flat_map frame_marks fs ++ (opens o.rule ∷ ms)) inside
    ∙ sym (append_assoc (flat_map frame_marks fs) (opens o.rule ∷ flat_map marks o.parts) mine)
    ∙ ap (λ ms. ms ++ mine) (sym around) ∙ sym (append_assoc (flat_map frame_marks gs) (frame_marks b) (shuts b.rule ∷ []))
    ∙ ap (λ (f : Frame). (flat_map frame_marks gs ++ frame_marks f) ++ shuts f.rule ∷ []) eb

-- where only the end of a rule is to come, there is no other node
grows : (gs : List Goal) (fs : List Frame) → fold (λ (gs : List Goal) (f : Frame). frame_goals f ++ gs) gs fs ≡ [] → gs ≡ []
grows gs [] h = h
grows gs (f ∷ fs) h = append-nil_right (frame_goals f) gs (grows (frame_goals f ++ gs) fs h)

no_frames : (fs : List Frame) → outer_goals fs ≡ [] → fs ≡ []
no_frames [] h = refl
no_frames (f ∷ fs) h =
    let e : phrase f.then ∷ shut f.rule ∷ [] ≡ [] = append-nil_right (map part f.todo.now) _ (append-nil_left (frame_goals f) [] (grows (frame_goals f ++ []) fs h)) in cc

last_goals : (todo : List Part) (then : Phrase) (rule r : Rule) (gs : List Goal) → (map part todo ++ phrase then ∷ shut rule ∷ []) ++ gs ≡ phrase Done ∷ shut r ∷ [] → (gs ≡ []) × (rule ≡ r)
last_goals [] then rule r gs h = (cc, cc)
last_goals (p ∷ ps) then rule r gs h = cc

pub finished : (f : Frame) (fs : List Frame) (r : Rule) → frame_goals f ++ outer_goals fs ≡ phrase Done ∷ shut r ∷ []
    → marks (Many f.rule f.parts) ≡ (flat_map frame_marks fs ++ frame_marks f) ++ shuts r ∷ []
finished f fs r h =
    let e = last_goals f.todo.now f.then f.rule r (outer_goals fs) h in
    rw (no_frames fs e.0, e.1, marks_many) refl
