-- The engine as words.
use Rattle.std.specs.{Prelude.{◌≡◌, ℕ, ◌<◌, ◌^◌, Bool, List, ◌∷◌, Option, length, refl}, List.AllByRecursion}
use Rattle.std.proofs.Common.{ap, sym, ◌∙◌}
use Rattle.saved_state.specs.State.{IsToldApart, KeepsOption, put_all, put_list, put_number, put_option, put_pair, put_three, all_apart, list_apart}
use Rattle.saved_state.specs.State.{number_apart, option_apart, pair_apart, parts_apart, three_apart}
use Rattle.block_scheduler.specs.{Schedule.Schedule, Saved.{KeepsSchedule, put_schedule, schedule_apart}}
use Rattle.block_engine.specs.declared.aside.{AsideKind.AsideKind, AsideStage.{AsideStage, TheVariants.{Idle, Waiting, Asked, Done, Failed}}}
use Rattle.block_engine.specs.declared.request.{ErrorKind.{ErrorKind, TheVariants.{Uncorrectable, NotFound, Aborted}}, Failure.Failure, Range.Range}
use Rattle.block_engine.specs.{Engine.{EngineState, line}, Numbers.{AreNumbered, are_numbered}}
use Rattle.block_engine.specs.declared.aside.AsideKind.TheVariants as kinds

-- ## What a command beside the queue asks for, and how far it has come

abbrev pub kind_number : AsideKind → ℕ
kind_number kinds.Flush = 0
kind_number kinds.Discard = 1

abbrev pub put_kind : AsideKind → List ℕ → List ℕ
put_kind kind rest = kind_number kind ∷ rest

-- the request that is out has its number behind it
abbrev pub put_stage : AsideStage → List ℕ → List ℕ
put_stage Idle rest = 0 ∷ rest
put_stage Waiting rest = 1 ∷ rest
put_stage (Asked number) rest = 2 ∷ number ∷ rest
put_stage Done rest = 3 ∷ rest
put_stage Failed rest = 4 ∷ rest

abbrev pub KeepsStage : AsideStage → Type 0
KeepsStage (Asked number) = number < 2 ^ 64
KeepsStage _ = Unit {0}

-- ## Ranges, and why the caller could not do a request

abbrev pub RangeParts : Type 0
RangeParts = ℕ × ℕ

abbrev pub range_parts : Range → RangeParts
range_parts r = (r.lba, r.count)

abbrev pub put_range_parts : RangeParts → List ℕ → List ℕ
put_range_parts = put_pair put_number put_number

abbrev pub KeepsRangeParts : RangeParts → Type 0
KeepsRangeParts parts = (parts.0 < 2 ^ 64) × (parts.1 < 2 ^ 32)

abbrev pub put_range : Range → List ℕ → List ℕ
put_range r rest = put_range_parts (range_parts r) rest

abbrev pub KeepsRange : Range → Type 0
KeepsRange r = KeepsRangeParts (range_parts r)

abbrev pub error_number : ErrorKind → ℕ
error_number Uncorrectable = 0
error_number NotFound = 1
error_number Aborted = 2

abbrev pub put_error : ErrorKind → List ℕ → List ℕ
put_error error rest = error_number error ∷ rest

abbrev pub FailureParts : Type 0
FailureParts = ErrorKind × ℕ

abbrev pub failure_parts : Failure → FailureParts
failure_parts f = (f.error, f.lba)

abbrev pub put_failure_parts : FailureParts → List ℕ → List ℕ
put_failure_parts = put_pair put_error put_number

abbrev pub KeepsFailureParts : FailureParts → Type 0
KeepsFailureParts parts = Unit {0} × (parts.1 < 2 ^ 64)

abbrev pub put_failure : Failure → List ℕ → List ℕ
put_failure f rest = put_failure_parts (failure_parts f) rest

abbrev pub KeepsFailure : Failure → Type 0
KeepsFailure f = KeepsFailureParts (failure_parts f)

-- ## The engine: its scheduler, the command beside the queue, its ranges, the dropped discard, and the failures by place

abbrev pub Parts : Type 0
Parts = Schedule × (AsideKind × AsideStage) × (List Range × Option ℕ × List (Option Failure))

abbrev pub parts_of : EngineState → Parts
parts_of e = (e.schedule, (e.kind, e.stage), (e.ranges, e.dropped, e.failures))

abbrev pub put_parts : Parts → List ℕ → List ℕ
put_parts = put_three put_schedule (put_pair put_kind put_stage)
    (put_three (put_list put_range) (put_option put_number) (put_all (put_option put_failure)))

abbrev pub KeepsParts : Parts → Type 0
KeepsParts parts = KeepsSchedule parts.0 × (Unit {0} × KeepsStage parts.1.1)
    × (AllByRecursion KeepsRange parts.2.0 × KeepsOption (λ n. n < 2 ^ 64) parts.2.1
    × ((length parts.2.2 ≡ 33) × AllByRecursion (KeepsOption KeepsFailure) parts.2.2))

abbrev pub put_engine : EngineState → List ℕ → List ℕ
put_engine e rest = put_parts (parts_of e) rest

-- its parts keep their rules, and no two requests that are not answered have one number
abbrev pub KeepsEngine : EngineState → Type 0
KeepsEngine e = KeepsParts (parts_of e) × AreNumbered (line e) e.stage e.dropped

-- what is tested of parts
abbrev pub fit : Parts → Bool
fit parts = are_numbered parts.0.line parts.1.1 parts.2.1

-- ## Words are those of one value

numbers_apart : (bound : ℕ) → IsToldApart put_number (λ n. n < bound)
numbers_apart bound a b x y k l e = number_apart a b x y e

kind_same : (a b : AsideKind) → kind_number a ≡ kind_number b → a ≡ b
kind_same kinds.Flush kinds.Flush e = refl
kind_same kinds.Discard kinds.Discard e = refl
kind_same kinds.Flush kinds.Discard e = absurd (cc)
kind_same kinds.Discard kinds.Flush e = absurd (cc)

pub kind_apart : IsToldApart put_kind (λ _. Unit {0})
kind_apart a b x y k l e = let same : kind_number a ≡ kind_number b = cc in (kind_same a b same, cc)

pub stage_apart : IsToldApart put_stage KeepsStage
stage_apart Idle Idle x y k l e = (refl, cc)
stage_apart Waiting Waiting x y k l e = (refl, cc)
stage_apart (Asked a) (Asked b) x y k l e = let same : a ≡ b = cc in (cc, cc)
stage_apart Done Done x y k l e = (refl, cc)
stage_apart Failed Failed x y k l e = (refl, cc)
stage_apart a b x y k l e = absurd (cc)

pub range_parts_apart : IsToldApart put_range_parts KeepsRangeParts
range_parts_apart = pair_apart put_number (λ n. n < 2 ^ 64) (numbers_apart (2 ^ 64)) put_number (λ n. n < 2 ^ 32) (numbers_apart (2 ^ 32))

pub range_apart : IsToldApart put_range KeepsRange
range_apart = parts_apart put_range_parts KeepsRangeParts KeepsRange range_parts range_parts_apart (λ r k. k)
    (λ a b e. ap (λ p. record { lba = p.0; count = p.1 }) e)

error_same : (a b : ErrorKind) → error_number a ≡ error_number b → a ≡ b
error_same Uncorrectable Uncorrectable e = refl
error_same NotFound NotFound e = refl
error_same Aborted Aborted e = refl
error_same a b e = absurd (cc)

pub error_apart : IsToldApart put_error (λ _. Unit {0})
error_apart a b x y k l e = let same : error_number a ≡ error_number b = cc in (error_same a b same, cc)

pub failure_parts_apart : IsToldApart put_failure_parts KeepsFailureParts
failure_parts_apart = pair_apart put_error (λ _. Unit {0}) error_apart put_number (λ n. n < 2 ^ 64) (numbers_apart (2 ^ 64))

pub failure_apart : IsToldApart put_failure KeepsFailure
failure_apart = parts_apart put_failure_parts KeepsFailureParts KeepsFailure failure_parts failure_parts_apart (λ f k. k)
    (λ a b e. ap (λ p. record { error = p.0; lba = p.1 }) e)

failures_apart : IsToldApart (put_all (put_option put_failure)) (λ all. (length all ≡ 33) × AllByRecursion (KeepsOption KeepsFailure) all)
failures_apart a b x y k l e = all_apart (put_option put_failure) (KeepsOption KeepsFailure)
    (option_apart put_failure KeepsFailure failure_apart) a b x y (k.0 ∙ sym l.0) k.1 l.1 e

pub parts_told_apart : IsToldApart put_parts KeepsParts
parts_told_apart = three_apart put_schedule KeepsSchedule schedule_apart
    (put_pair put_kind put_stage) (λ t. Unit {0} × KeepsStage t.1)
    (pair_apart put_kind (λ _. Unit {0}) kind_apart put_stage KeepsStage stage_apart)
    (put_three (put_list put_range) (put_option put_number) (put_all (put_option put_failure)))
    (λ t. AllByRecursion KeepsRange t.0 × KeepsOption (λ n. n < 2 ^ 64) t.1
    × ((length t.2 ≡ 33) × AllByRecursion (KeepsOption KeepsFailure) t.2))
    (three_apart (put_list put_range) (AllByRecursion KeepsRange) (list_apart put_range KeepsRange range_apart)
    (put_option put_number) (KeepsOption (λ n. n < 2 ^ 64)) (option_apart put_number (λ n. n < 2 ^ 64) (numbers_apart (2 ^ 64)))
    (put_all (put_option put_failure)) (λ all. (length all ≡ 33) × AllByRecursion (KeepsOption KeepsFailure) all) failures_apart)

pub engine_apart : IsToldApart put_engine KeepsEngine
engine_apart = parts_apart put_parts KeepsParts KeepsEngine parts_of parts_told_apart (λ e k. k.0)
    (λ a b e. ap (λ p. record {
      schedule = p.0;
      kind = p.1.0;
      stage = p.1.1;
      ranges = p.2.0;
      dropped = p.2.1;
      failures = p.2.2;
    }) e)
