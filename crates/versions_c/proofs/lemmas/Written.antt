-- What is told of bytes that are written into a buffer, if they fit, and of the version that comes next.
use Rattle.std.proofs.Common.{◌≡◌, ◌∙◌, ◌<◌, ◌≤◌, ◌^◌, ℕ, List, arith, length, Option, Some}
use Rattle.std.proofs.lemmas.Bool.Decides.{nat_tests}
use Rattle.version_order.proofs.lemmas.Sinks.{put_fits}
use Rattle.versions_c.specs.{Newest.IsAnswered, Written.IsWritten, declared.status.TheConstants.NO_ROOM, declared.status.TheConstants.OK}
use Rattle.version_rules.specs.grammar.Versioning.{PlainVersioning, versioning_text}
use Rattle.version_tasks.specs.Next.{IsLeastAfter}
use Rattle.version_order.specs.keys.Sinks.{IsWritten as IsPut, put_at, saturated}

module _ (bytes old new : List ℕ) (len : ℕ) (counted : len ≡ saturated (length bytes))
    (small : length old < 2 ^ 63) (put : IsPut old 0 bytes new) where
  pub fitting : len ≤ length old → IsWritten bytes old new len OK
  fitting within =
      let fits : length bytes ≤ length old = omega (arith, counted, small, within) in
      record {
        status_is = grind (arith, nat_tests);
        length_is = counted;
        text_is = λ _. put.fitting (omega (arith, fits)) ∙ put_fits old bytes fits;
      }

  pub too_long : length old < len → IsWritten bytes old new len NO_ROOM
  too_long long =
      let longer : length old < length bytes = omega (arith, counted, long) in
      record { status_is = grind (arith, nat_tests); length_is = counted; text_is = λ ok. cc ok }

-- a text that fits is written
pub next_written : (Form : PlainVersioning → PlainVersioning → Type 0)
    (spelled : Option PlainVersioning) (v : PlainVersioning) → Some v ≡ spelled
    → (old : List ℕ) (w : PlainVersioning) → IsLeastAfter v (Form v) w → (len : ℕ)
    → len ≡ saturated (length (versioning_text w)) → length old < 2 ^ 63 → len ≤ length old
    → (new : List ℕ) → new ≡ put_at old 0 (versioning_text w)
    → IsAnswered spelled Form old new len OK
next_written Form spelled v is old w next len counted small within new put =
    grind (arith, nat_tests, put_fits)
