-- The answer for a shard, from what its parts give.
use Rattle.std.proofs.Common.{[], Bool, List, sym, ◌∙◌}
use Rattle.std.specs.List.{All}
use Rattle.scrub_disk.specs.Image.{Image}
use Rattle.scrub_super.specs.Plan.{PlanValue}
use Rattle.scrub_scan.specs.declared.standing.Standing.{Standing}
use Rattle.scrub_scan.specs.Scanned.{Scanned}
use Rattle.scrub_run.specs.declared.shard_id.ShardId.{ShardId}
use Rattle.scrub_merge.specs.Binding.{BindingValue}
use Rattle.scrub_check.specs.declared.statuses.checked.Checked.{Checked}
use Rattle.scrub_check.specs.Checked.{AreChecked}
use Rattle.scrub_check.specs.Named.{named_by_shard}
use Rattle.scrub_loose.specs.Copies.{CopiesValue}
use Rattle.scrub_loose.specs.Loose.{AreLoose, LooseValue}
use Rattle.scrub_shard.specs.Shard.{IsAnswerBy, IsAnswerIn, IsEntryAnswer, IsBoundBy, Mapped}
use Rattle.scrub_shard.specs.steps.Payloads.{IsAnswerWith}
use Rattle.scrub_shard.specs.declared.shard.ShardAnswer.{ShardAnswer}
use Rattle.scrub_shard.specs.declared.shard.ShardAnswer.TheVariants.{NoSuchShard, PayloadLost, Found}
use Rattle.scrub_shard.proofs.Joined.{HasItsCopies, bytes_are}
use Rattle.scrub_shard.proofs.Lost.{same_lost}

-- the answer by the copies that were found is that by the copies that the locators have
answer_by : (image : Image) (all : List Scanned) (loose : List Standing) (found : CopiesValue) (doubtful : Bool) (own : List Checked)
    (a : ShardAnswer) → All (HasItsCopies all loose found) own → IsAnswerWith image found doubtful own a →
    IsAnswerBy image all loose doubtful own a
answer_by image all loose found doubtful own NoSuchShard same x = absurd x
answer_by image all loose found doubtful own (PayloadLost number) same x = sym (same_lost all loose found own same) ∙ x
answer_by image all loose found doubtful own (Found bytes) same x =
    (sym (same_lost all loose found own same) ∙ x.0, bytes_are image all loose found own bytes.bytes same x.1, x.2)

-- so it is that of the entry
pub answer_of : (image : Image) (plan : PlanValue) (all : List Scanned) (loose : LooseValue) (found : CopiesValue) (b : BindingValue)
    (own : List Checked) (a : ShardAnswer) → AreLoose [] image plan loose → AreChecked image plan (named_by_shard b) own →
    All (HasItsCopies all loose.frames found) own → IsAnswerWith image found b.doubtful own a → IsEntryAnswer image plan all b a
answer_of image plan all loose found b own a are checked same x = record {
  own = own;
  checked = checked;
  loose = loose;
  are_loose = are;
  answer = answer_by image all loose.frames found b.doubtful own a same x;
}

-- the answer for the entry of a shard is that of the shard
pub answered_in : (image : Image) (m : Mapped) (id : ShardId) (b : BindingValue) (a : ShardAnswer) → IsBoundBy m.bindings id b →
    IsEntryAnswer image m.plan m.all b a → IsAnswerIn image m id a
answered_in image m id b NoSuchShard bound x = absurd x.answer
answered_in image m id b (PayloadLost number) bound x = (b, bound, x)
answered_in image m id b (Found found) bound x = (b, bound, x)
