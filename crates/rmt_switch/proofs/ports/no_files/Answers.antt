use Rattle.std.proofs.Common.{ℕ, List, [], ◌∷◌, ◌++◌, map, Vec, Global, ap, ◌∙◌}
use Rattle.std.specs.Prelude.{replicate}
use Rattle.std.proofs.lemmas.List.{map_push, replicate-append-replicate}
use Rattle.rmt_switch.proofs.ports.no_files.Goals as goal

abbrev nothing : List ℕ
nothing = []

abbrev bytes_of : Vec ℕ Global → List ℕ
bytes_of f = f.items

pub loop-port-preserved : goal.loop-port-preserved
loop-port-preserved c =
    let n = c.loop-port._port in
    ap (map bytes_of) c.in_ok-push.ensures.items
    ∙ map_push bytes_of c.loop-port.files.items c.new.result
    ∙ ap (λ (files : List (List ℕ)). files ++ bytes_of c.new.result ∷ []) c.loop-port.invariant
    ∙ ap (λ (file : List ℕ). replicate n nothing ++ file ∷ []) c.new.ensures.items
    ∙ replicate-append-replicate n 1 nothing
