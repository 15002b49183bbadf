use Rattle.std.proofs.Common.{◌≡◌, ◌++◌, ap, sym, subst, ◌∙◌, List, ℕ, Ok, string_bytes}
use Rattle.std.proofs.lemmas.Result.{IfOk-weaker}
use Rattle.serde_json.specs.Read.{read}
use Rattle.setting_text.proofs.Floats.{no_float}
use Rattle.setting_text.proofs.Depths.{shallow}
use Rattle.setting_text.proofs.Feeds.{feed, read_feed}
use Rattle.setting_text.specs.Writing.{setting_text}
use Rattle.setting_text.specs.Reading.{StandsFor, setting_of}
use Rattle.setting_text.proofs.Stands.{text_stands, read_back}
use Rattle.setting_text.proofs.writing.write_setting.Goals as goal

pub returns-clause-text : goal.returns-clause-text
returns-clause-text c =
    let text = string_bytes c.in_ok-text.text in
    let exact = (rw c.in_ok-setting_value.ensures.data at c.in_ok-text.ensures.text) (no_float c.args.p.now c.args.s.now) in
    let fed = rw c.as_str.ensures.value at c.line_of.ensures in
    IfOk-weaker c.line_of.result (λ t. t ≡ text ++ feed) _ (λ t line. line ∙ ap (λ (bs : List ℕ). bs ++ feed) exact) fed

pub returns-clause-reads : goal.returns-clause-reads
returns-clause-reads c =
    let text = string_bytes c.in_ok-text.text in
    let back = (rw c.in_ok-setting_value.ensures.data at c.in_ok-text.ensures.reads_back) (shallow c.args.p.now c.args.s.now) in
    let fed = rw c.as_str.ensures.value at c.line_of.ensures in
    IfOk-weaker c.line_of.result (λ t. t ≡ text ++ feed) _ (λ t line. ap read line ∙ read_feed text ∙ back) fed

pub returns-clause-stands : goal.returns-clause-stands
returns-clause-stands c = λ kinds.
    let p = c.args.p.now in
    let s = c.args.s.now in
    let stands = text_stands p s c.requires kinds c.setting_value.ensures.within in
    IfOk-weaker c.line_of.result (λ t. t ≡ setting_text p s) _ (λ t e. subst (λ (x : List ℕ). StandsFor p x s) (sym e) stands) (returns-clause-text c)

pub returns-clause-read_back : goal.returns-clause-read_back
returns-clause-read_back c = λ kinds.
    let p = c.args.p.now in
    let s = c.args.s.now in
    let back = read_back p s c.setting_value.ensures.problem c.setting_value.ensures.within c.requires kinds in
    IfOk-weaker c.line_of.result (λ t. t ≡ setting_text p s) _ (λ t e. subst (λ (x : List ℕ). setting_of p x ≡ Ok s) (sym e) back) (returns-clause-text c)
