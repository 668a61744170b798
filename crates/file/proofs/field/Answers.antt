use mathlib.Core.Path.{sym, ◌∙◌}
use Rattle.file.proofs.Cuts.{four, body_there, rest_there, by_contents}
use Rattle.file.proofs.Numbers.{passed_on}
use Rattle.file.proofs.field.Goals as goal

pub contents-requires : goal.contents-requires
contents-requires c = λ t. four _ _ c.number_at-n.ensures c.if-s-end.false _ (sym c.length_fits.ensures ∙ c.if-not-length_fits.false) t

pub returns-in_err-contents-clause-number : goal.returns-in_err-contents-clause-number
returns-in_err-contents-clause-number c = passed_on _ _ c.from_residual.ensures.1 ∙ c.in_err-contents.ensures ∙ sym (by_contents _ _ c.number_at-n.ensures c.if-s-end.false _ (sym c.length_fits.ensures ∙ c.if-not-length_fits.false) (c.if-s-from.false ∙ c.from.ensures))

pub returns-clause-number : goal.returns-clause-number
returns-clause-number c = c.in_ok-contents.ensures ∙ sym (by_contents _ _ c.number_at-n.ensures c.if-s-end.false _ (sym c.length_fits.ensures ∙ c.if-not-length_fits.false) (c.if-s-from.false ∙ c.from.ensures))

pub returns-clause-passed : goal.returns-clause-passed
returns-clause-passed c = record {
  number = c.in_ok-contents.ensures ∙ sym (by_contents _ _ c.number_at-n.ensures c.if-s-end.false _ (sym c.length_fits.ensures ∙ c.if-not-length_fits.false) (c.if-s-from.false ∙ c.from.ensures));
  is_body = body_there _ _ c.number_at-n.ensures c.if-s-end.false;
  is_rest = rest_there _ _ c.number_at-n.ensures c.if-s-end.false;
}
