use Rattle.std.proofs.Common.{sym, ◌∙◌}
use Rattle.rmt_config.proofs.NamePartLaws.{else_not, fit_seen, then_too}
use Rattle.rmt_config.proofs.form.names.made.is_made_so.Goals as goal

pub returns-then-fits_parts : goal.returns-then-fits_parts
returns-then-fits_parts c config seen =
    c.has_rows.ensures config seen ∙ then_too _ _ (sym (fit_seen config c.args.table.now c.args.parts.now seen) ∙ sym c.fits_parts.ensures ∙ c.if-fits_parts.true)

pub returns-else-fits_parts : goal.returns-else-fits_parts
returns-else-fits_parts c config seen =
    c.if-fits_parts.false ∙ else_not _ _ (sym (fit_seen config c.args.table.now c.args.parts.now seen) ∙ sym c.fits_parts.ensures ∙ c.if-fits_parts.false)
