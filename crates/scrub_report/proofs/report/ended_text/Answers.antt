-- Step by step.
use Rattle.std.proofs.Common.{◌≡◌, ◌++◌, ◌∷◌, [], ap, ap₂, ◌∙◌}
use Rattle.json.specs.Print.{print}
use Rattle.json.specs.Token.{end_array, end_object}
use Rattle.scrub_report.specs.steps.Tokens.{ended_tokens, last_keys, members_tokens}
use Rattle.scrub_report.proofs.Tokens.{chain}
use Rattle.scrub_report.proofs.report.ended_text.Goals as goal

pub returns : goal.returns
returns g c =
    c.into_inner.ensures.items ∙ ap₂ (λ b ts. b ++ print ts) before tokens
  where
    before : c.end_object.new.self.before ≡ []
    before =
        c.end_object.ensures.room.0 ∙ c.in_ok-write_keys_after_extents.ensures.before ∙ c.end_array.ensures.room.0 ∙ c.new-out.ensures.before ∙ c.in_ok-text.ensures.items

    tokens : c.end_object.new.self.tokens ≡ ended_tokens c.args.listed.now
    tokens =
        let keys = members_tokens (last_keys c.args.listed.now) in
        let t0 = c.new-out.result.tokens in
        let t1 = c.end_array.new.self.tokens in
        let t2 = c.write_keys_after_extents.new.out.tokens in
        let t3 = c.end_object.new.self.tokens in
        chain t0 t1 t3 (end_array ∷ []) (keys ++ end_object ∷ []) c.in_ok-end_array.ensures.ok
        (chain t1 t2 t3 keys (end_object ∷ []) c.in_ok-write_keys_after_extents.ensures.tokens c.in_ok-end_object.ensures.ok)
        ∙ ap (λ ts. ts ++ ended_tokens c.args.listed.now) c.new-out.ensures.tokens
