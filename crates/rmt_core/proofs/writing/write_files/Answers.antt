-- One file after another.
use Rattle.std.proofs.Common.{◌≡◌, ◌<◌, Err, ℕ, ◌+◌, length, get_or, List, [], ◌∷◌, ◌++◌, append_assoc, drop, take, refl, sym, ap, ◌∙◌, subst}
use Rattle.std.proofs.lemmas.List.{map-append, take-append-drop}
use Rattle.std.proofs.lemmas.Result.{err_from_is_err_and}
use Rattle.rmt_bits.proofs.ListLaws.{slice_get-seen, take-slice_get}
use Rattle.rmt_core.specs.declared.writing.NewFile.{NewFile}
use Rattle.rmt_core.specs.Writing.{WroteAll, write_of, writes_of}
use Rattle.rmt_core.proofs.WritingLaws.{broken_off, stood_up_to, wrote_more}
use Rattle.rmt_core.proofs.writing.write_files.Goals as goal

-- the next file behind those before it
more : (files : List NewFile) (i : ℕ) (file : NewFile) → i < length files → file ≡ get_or files i file → writes_of (take (i + 1) files) ≡ writes_of (take i files) ++ (write_of file ∷ [])
more files i file lt is = ap writes_of (take-slice_get files i file (slice_get-seen files files i file refl lt is)) ∙ map-append write_of (take i files) (file ∷ [])

split : (files : List NewFile) (i : ℕ) (file : NewFile) → i < length files → file ≡ get_or files i file → writes_of files ≡ writes_of (take i files) ++ (write_of file ∷ writes_of (drop (i + 1) files))
split files i file lt is =
    let behind = writes_of (drop (i + 1) files) in
    ap writes_of (sym (take-append-drop (i + 1) files)) ∙ (map-append write_of (take (i + 1) files) (drop (i + 1) files)
    ∙ (ap (λ l. l ++ behind) (more files i file lt is) ∙ append_assoc (writes_of (take i files)) (write_of file ∷ []) behind))

pub loop-file-preserved : goal.loop-file-preserved
loop-file-preserved g c =
    let files = c.args.files.now in
    let i = c.loop-file.file-index in
    let file = c.file-item.result in
    subst (λ w. WroteAll w (g.F.Shelf.state c.args.shelf.now) (g.F.Shelf.state c.write_file.new.shelf)) (sym (more files i file c.loop-file-test.true c.file-item.is))
    (wrote_more (g.F.Shelf.state c.args.shelf.now) (g.F.Shelf.state c.loop-file.shelf) (g.F.Shelf.state c.write_file.new.shelf) (writes_of (take i files)) c.loop-file.invariant (write_of file) c.in_ok-write_file.ensures.only_wrote c.in_ok-write_file.ensures.written)

pub returns-in_err-write_file-clause-no_memory : goal.returns-in_err-write_file-clause-no_memory
returns-in_err-write_file-clause-no_memory g c = λ e tells.
    let files = c.args.files.now in
    let i = c.loop-file.file-index in
    let file = c.file-item.result in
    let why = err_from_is_err_and c.from_residual.result c.from_residual.ensures.1 in
    stood_up_to (g.F.Shelf.state c.args.shelf.now) (g.F.Shelf.state c.loop-file.shelf) (g.F.Shelf.state c.write_file.new.shelf) (writes_of (take i files)) c.loop-file.invariant (writes_of files) (writes_of (drop (i + 1) files)) (write_of file) (split files i file c.loop-file-test.true c.file-item.is) (c.in_err-write_file.ensures.no_memory (sym (why.1 ∙ ap Err why.2) ∙ e)) tells

pub returns-in_err-write_file-clause-broken : goal.returns-in_err-write_file-clause-broken
returns-in_err-write_file-clause-broken g c = λ e tells.
    let files = c.args.files.now in
    let i = c.loop-file.file-index in
    let file = c.file-item.result in
    broken_off (g.F.Shelf.state c.args.shelf.now) (g.F.Shelf.state c.loop-file.shelf) (g.F.Shelf.state c.write_file.new.shelf) (writes_of (take i files)) c.loop-file.invariant (writes_of files) (writes_of (drop (i + 1) files)) (write_of file) (split files i file c.loop-file-test.true c.file-item.is) c.in_err-write_file.ensures.only_wrote tells
