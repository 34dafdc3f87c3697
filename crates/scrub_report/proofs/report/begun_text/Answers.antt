-- Step by step.
use Rattle.std.proofs.Common.{◌≡◌, ◌++◌, ◌∷◌, [], codes, ap, ap₂, ◌∙◌}
use Rattle.json.specs.Print.{print}
use Rattle.json.specs.Token.{begin_array, begin_object, key}
use Rattle.scrub_report.specs.steps.Tokens.{begun_tokens, first_keys, members_tokens}
use Rattle.scrub_report.proofs.Tokens.{chain}
use Rattle.scrub_report.proofs.report.begun_text.Goals as goal

pub returns : goal.returns
returns g c =
    c.into_inner.ensures.items ∙ ap₂ (λ b ts. b ++ print ts) before tokens
  where
    before : c.begin_array.new.self.before ≡ []
    before =
        c.begin_array.ensures.room.0 ∙ c.key.ensures.room.0 ∙ c.in_ok-write_keys_before_extents.ensures.before ∙ c.begin_object.ensures.room.0 ∙ c.new-out.ensures.before ∙ c.new.ensures.items

    tokens : c.begin_array.new.self.tokens ≡ begun_tokens c.args.listed.now c.args.broken.now c.args.clean
    tokens =
        let t0 = c.new-out.result.tokens in
        let t1 = c.begin_object.new.self.tokens in
        let t2 = c.write_keys_before_extents.new.out.tokens in
        let t3 = c.key.new.self.tokens in
        let t4 = c.begin_array.new.self.tokens in
        let x1 = begin_object ∷ [] in
        let x2 = members_tokens (first_keys c.args.listed.now c.args.broken.now c.args.clean) in
        let x3 = key (codes "extents") ∷ [] in
        let x4 = begin_array ∷ [] in
        chain t0 t1 t4 x1 (x2 ++ (x3 ++ x4)) c.in_ok-begin_object.ensures.ok
        (chain t1 t2 t4 x2 (x3 ++ x4) c.in_ok-write_keys_before_extents.ensures.tokens
        (chain t2 t3 t4 x3 x4 c.in_ok-key.ensures.ok c.in_ok-begin_array.ensures.ok))
        ∙ ap (λ ts. ts ++ begun_tokens c.args.listed.now c.args.broken.now c.args.clean) c.new-out.ensures.tokens
