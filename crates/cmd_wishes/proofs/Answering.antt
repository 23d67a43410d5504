-- The result of `improve` by wishes.
use Rattle.std.specs.Prelude.{◌≡◌, ℕ, ◌≤◌, List, length, Bool, true, false, codes, refl}
use Rattle.std.proofs.Common.{◌∙◌, ap, sym, subst}
use Rattle.std.proofs.lemmas.Grind.{common_steps}
use Rattle.net_theory.specs.Limits.{most_of_netlist}
use Rattle.net_core.specs.declared.error.NetError.{NetError}
use Rattle.net_core.specs.declared.error.NetError.TheVariants as nets
use Rattle.net_document.specs.Format.{IsRefusedText}
use Rattle.format_names.specs.declared.formats.NetFormat.{NetFormat}
use Rattle.net_formats.specs.Formats.{format_of}
use Rattle.settings.specs.declared.improve.ImproveSettings.{ImproveSettings}
use Rattle.wish_names.specs.declared.wishes.Wishes.{Wishes}
use Rattle.wish_names.specs.declared.wishes.FormAsked.{FormAsked}
use Rattle.equiv_run.specs.Two.{is_bare}
use Rattle.improve_wishes.specs.declared.texts.WishedText.{WishedText}
use Rattle.improve_wishes.specs.declared.texts.WishedText.TheVariants as texts
use Rattle.improve_wishes.specs.Texts.{IsWishedText}
use Rattle.improve_wishes.specs.Wished.{IsWished}
use Rattle.frame_core.specs.Reported.{Reply, Refusal}
use Rattle.frame_core.specs.Task.{HasReply, Refuses}
use Rattle.cmd_improve.specs.ImproveReport.{improve_reply, improve_refusal}
use Rattle.cmd_improve.specs.NamedReport.{Empty, Faulty, empty_refusal}
use Rattle.cmd_wishes.specs.WishReport.{Improved, CannotExpress, TooLarge, wished_format, wishes_for, wished_task}
use Rattle.cmd_wishes.specs.WishReport.{plain_text, KeepsSections, IsInForm}
use Rattle.cmd_wishes.specs.Replies.{StandsFor, IsReplyOf}

pub replied : (format : NetFormat) (settings : ImproveSettings) (w : Wishes) (bytes : List ℕ) (wished : WishedText)
    (reply : Reply) → length bytes ≤ most_of_netlist → is_bare bytes ≡ false →
    IsWishedText (wished_format format w) settings (wishes_for format w) bytes wished →
    IsReplyOf format w.form bytes wished reply → HasReply (wished_task format settings w) bytes reply
replied format settings w bytes (texts.Text i) reply within said is of = record {
  answer = Improved (record { text = of.answer; report = i.report.items });
  has = record {
    within = within;
    said = said;
    is = (
      subst (λ (t : List ℕ). IsWished (wished_format format w) settings (wishes_for format w) bytes t i.report.items)
          (sym of.stands) is,
      of.sections,
      of.in_form,
    );
  };
  is = of.is;
}
replied format settings w bytes (texts.Cannot name) reply within said is of = record {
  answer = CannotExpress name.items;
  has = record { within = within; said = said; is = is };
  is = of;
}
replied format settings w bytes texts.TooMany reply within said is of = record {
  answer = TooLarge;
  has = record { within = within; said = said; is = is };
  is = of;
}

pub text_replied : (format : NetFormat) (form : FormAsked) (bytes text report answer answer_report : List ℕ)
    (reply : Reply) → plain_text format answer ≡ text → KeepsSections format bytes answer →
    IsInForm format form bytes answer → answer_report ≡ report →
    reply ≡ improve_reply (record { text = answer; report = answer_report }) →
    StandsFor format form bytes text report reply
text_replied format form bytes text report answer answer_report reply stands sections in_form told is = record {
  answer = answer;
  stands = stands;
  sections = sections;
  in_form = in_form;
  is = is ∙ ap (λ (r : List ℕ). improve_reply (record { text = answer; report = r })) told;
}

pub refuses : (format : NetFormat) (settings : ImproveSettings) (w : Wishes) (bytes : List ℕ) (e : NetError)
    (refusal : Refusal) → length bytes ≤ most_of_netlist → is_bare bytes ≡ false → (e ≡ nets.Memory → ⊥) →
    IsRefusedText (format_of format) bytes e → refusal ≡ improve_refusal e →
    Refuses (wished_task format settings w) bytes refusal
refuses format settings w bytes e refusal within said other fault is = record {
  fault = Faulty e;
  meets = record { within = within; said = said; fault = (fault, other) };
  is = is;
}

pub refuses_bare : (format : NetFormat) (settings : ImproveSettings) (w : Wishes) (bytes : List ℕ) (refusal : Refusal) →
    length bytes ≤ most_of_netlist → is_bare bytes ≡ true → refusal ≡ empty_refusal (codes "Empty") →
    Refuses (wished_task format settings w) bytes refusal
refuses_bare format settings w bytes refusal within bare is = record {
  fault = Empty;
  meets = record { within = within; bare = bare };
  is = is;
}

pub ruleset answering = (common_steps, replied, text_replied, refuses, refuses_bare)
