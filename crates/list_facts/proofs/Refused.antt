-- Each refusal is for its cause and place only: 65 first, then of 60, 61 and 62 the one at the lowest place.
use Rattle.std.specs.Prelude.{Ok, Err}
use mathlib.Core.Path.{◌≡◌, refl, sym, ap, ◌∙◌, subst}
use mathlib.Core.List.{List}
use mathlib.Core.Logic.{◌⊎◌, inl, inr, ⊎_elim}
use Prim.Native.Nat.{ℕ, suc, ◌≤◌, ◌<◌}
use native.Mathlib.Omega.{arith}
use native.Mathlib.Decide.{dec_le}
use lib.ListN.{length}
use Rattle.model.specs.Kinds.{Answer}
use Rattle.model.specs.declared.answer.Refusal.{Refusal}
use Rattle.model.specs.declared.answer.Refusal.TheVariants.{OfList}
use Rattle.model.specs.declared.answer.ListCause.{ListCause}
use Rattle.model.specs.declared.answer.ListCause.TheVariants.{ListShape, ListNumber, ListRange, ListLength}
use Rattle.model.specs.Answer.{list_number}
use Rattle.model.specs.Rules.{AllKept, FirstOffence}
use Rattle.model.proofs.Rules.{never, done_pass, pass_kept, refused_offence, offence_refused}
use Rattle.list_form.specs.Items.{items_set}
use Rattle.list_form.specs.Offences.{BreaksAt, NumberOver, RangeFalls, SoundAt, SoundBelow}
use Rattle.list_form.proofs.Sound.{sound_list, over_falls}
use Rattle.list.specs.declared.ListReading.{ListReading}
use Rattle.list.specs.Read.{most_list_text, list_rules, list_answer, items_of, reading_by, read_list}
use Rattle.list_facts.specs.Claims.{ListRefuses, LengthRefusedExactly, BreakRefusedExactly, OverRefusedExactly, FallRefusedExactly}
use Rattle.list_facts.proofs.Rules.{list_tells}
use Rattle.list_facts.proofs.Read.{done_lists}
use Rattle.list_facts.proofs.First.{Lowest}
use Rattle.list_facts.proofs.Item.{Found}
use Rattle.list_facts.proofs.Walk.{content_offence, content_kept}

-- what a refusal is for
refused_found : (text : List ℕ) (refusal : Refusal) → list_answer text ≡ Err refusal → ((most_list_text < length text) × (refusal ≡ OfList ListLength)) ⊎ ((length text ≤ most_list_text) × Found text refusal)
unfolding list_answer list_rules FirstOffence
refused_found text refusal e = go (refused_offence 0 (list_rules text) refusal (list_tells text) e)
  where
    go : FirstOffence (list_rules text) refusal → ((most_list_text < length text) × (refusal ≡ OfList ListLength)) ⊎ ((length text ≤ most_list_text) × Found text refusal)
    go (inl (long, same)) = inl (omega (arith, long), sym same)
    go (inr (short, offence)) = inr (short, content_offence text refusal offence)

refused_cause : (text : List ℕ) (refusal : Refusal) → list_answer text ≡ Err refusal → (cause : ListCause) × (refusal ≡ OfList cause)
refused_cause text refusal e =
    ⊎_elim
    (λ (long : (most_list_text < length text) × (refusal ≡ OfList ListLength)). (ListLength, long.1))
    (λ (found : (length text ≤ most_list_text) × Found text refusal). (found.1.0, found.1.1))
    (refused_found text refusal e)

pub list_refuses : ListRefuses
unfolding read_list
list_refuses text reading refusal reads e = go (list_answer text) refl reads
  where
    go : (answer : Answer) → list_answer text ≡ answer → reading ≡ reading_by answer (items_set (items_of text)) → ((cause : ListCause) × (refusal ≡ OfList cause)) × (reading.set ≡ 0)
    go (Ok count) h r = never (sym e ∙ ap (λ (x : ListReading). x.answer) r)
    go (Err other) h r = (refused_cause text refusal (h ∙ sym (ap (λ (x : ListReading). x.answer) r) ∙ e), ap (λ (x : ListReading). x.set) r)

-- nothing is wrong in a text that is accepted
done_sound : (text : List ℕ) (count : ℕ) → list_answer text ≡ Ok count → (at : ℕ) → SoundAt text at
unfolding list_answer list_rules AllKept
done_sound text count e =
    let kept = pass_kept (list_rules text) (list_tells text) (done_pass 0 (list_rules text) e) in
    sound_list text (items_of text) (done_lists text count e).list (content_kept text kept.1)

pub length_refused_exactly : LengthRefusedExactly
unfolding list_answer list_rules FirstOffence Lowest
length_refused_exactly text = (
  (λ e. ⊎_elim
      (λ (long : (most_list_text < length text) × (OfList ListLength ≡ OfList ListLength)). long.0)
      (λ (found : (length text ≤ most_list_text) × Found text (OfList ListLength)). let same : found.1.0 ≡ ListLength = cc found.1.1 in absurd (subst (Lowest text) same found.1.2))
      (refused_found text (OfList ListLength) e)),
  (λ long. offence_refused 0 (list_rules text) (OfList ListLength) (list_tells text) (inl ((λ short. omega (arith, short, long)), refl))),
)

-- what a refusal with a place says
refused_lowest : (text : List ℕ) (cause : ListCause) → (cause ≡ ListLength → ⊥) → list_answer text ≡ Err (OfList cause) → (length text ≤ most_list_text) × Lowest text cause
refused_lowest text cause placed e =
    ⊎_elim
    (λ (long : (most_list_text < length text) × (OfList cause ≡ OfList ListLength)). let same : cause ≡ ListLength = cc long.1 in absurd (placed same))
    (λ (found : (length text ≤ most_list_text) × Found text (OfList cause)). let same : found.1.0 ≡ cause = cc found.1.1 in (found.0, subst (Lowest text) same found.1.2))
    (refused_found text (OfList cause) e)

-- something is wrong at a place
abbrev Wrong : List ℕ → ℕ → Type 0
Wrong text at = BreaksAt text at ⊎ (NumberOver text at ⊎ RangeFalls text at)

not_wrong : (text : List ℕ) (at : ℕ) → SoundAt text at → Wrong text at → ⊥
not_wrong text at sound (inl breaks) = sound.not_broken breaks
not_wrong text at sound (inr (inl over)) = sound.not_over over
not_wrong text at sound (inr (inr falls)) = sound.not_falling falls

-- there is one lowest place
same_place : (text : List ℕ) (one other : ℕ) → Wrong text one → SoundBelow text one → Wrong text other → SoundBelow text other → other ≡ one
same_place text one other w sound w' sound' = go (dec_le (suc one) other) (dec_le (suc other) one)
  where
    go : Dec (one < other) → Dec (other < one) → other ≡ one
    go (yes below) _ = absurd (not_wrong text one (sound' one below) w)
    go (no _) (yes below) = absurd (not_wrong text other (sound other below) w')
    go (no least) (no most) = omega (arith, least, most)

-- refused for what is wrong at the lowest place
abbrev RefusedFor : List ℕ → ListCause → Type 0
RefusedFor text cause = (list_answer text ≡ Err (OfList cause)) × Lowest text cause

abbrev RefusedAt : List ℕ → ℕ → Type 0
RefusedAt text at = RefusedFor text (ListShape at) ⊎ (RefusedFor text (ListNumber at) ⊎ RefusedFor text (ListRange at))

-- where something is wrong and nothing below, the refusal has that place
module _ (text : List ℕ) (at : ℕ) (short : length text ≤ most_list_text) (wrong : Wrong text at) (sound : SoundBelow text at) where
  placed_at : (cause : ListCause) → list_answer text ≡ Err (OfList cause) → Lowest text cause → RefusedAt text at
  unfolding Lowest
  placed_at (ListShape other) e low =
      let same : other ≡ at = same_place text at other wrong sound (inl low.0) low.2 in inl (subst (λ (n : ℕ). RefusedFor text (ListShape n)) same (e, low))
  placed_at (ListNumber other) e low =
      let same : other ≡ at = same_place text at other wrong sound (inr (inl low.0)) low.2 in inr (inl (subst (λ (n : ℕ). RefusedFor text (ListNumber n)) same (e, low)))
  placed_at (ListRange other) e low =
      let same : other ≡ at = same_place text at other wrong sound (inr (inr low.0)) low.2 in inr (inr (subst (λ (n : ℕ). RefusedFor text (ListRange n)) same (e, low)))
  placed_at ListLength e low = absurd low

  refused_there : RefusedAt text at
  refused_there = go (list_answer text) refl
    where
      go : (answer : Answer) → list_answer text ≡ answer → RefusedAt text at
      go (Ok count) h = absurd (not_wrong text at (done_sound text count h at) wrong)
      go (Err refusal) h =
          ⊎_elim
          (λ (long : (most_list_text < length text) × (refusal ≡ OfList ListLength)). absurd (omega (arith, long.0, short)))
          (λ (found : (length text ≤ most_list_text) × Found text refusal). placed_at found.1.0 (h ∙ ap Err found.1.1) found.1.2)
          (refused_found text refusal h)

pub break_refused_exactly : BreakRefusedExactly
unfolding Lowest
break_refused_exactly text at = (there, back)
  where
    there : list_answer text ≡ Err (OfList (ListShape at)) → (length text ≤ most_list_text) × BreaksAt text at × SoundBelow text at
    there e = let r = refused_lowest text (ListShape at) (λ c. omega (arith, ap list_number c)) e in (r.0, r.1.0, r.1.2)

    back : (length text ≤ most_list_text) × BreaksAt text at × SoundBelow text at → list_answer text ≡ Err (OfList (ListShape at))
    back (short, breaks, sound) =
        ⊎_elim
        (λ (shape : RefusedFor text (ListShape at)). shape.0)
        (⊎_elim (λ (number : RefusedFor text (ListNumber at)). absurd (number.1.1 breaks)) (λ (range : RefusedFor text (ListRange at)). absurd (range.1.1 breaks)))
        (refused_there text at short (inl breaks) sound)

pub over_refused_exactly : OverRefusedExactly
unfolding Lowest
over_refused_exactly text at = (there, back)
  where
    there : list_answer text ≡ Err (OfList (ListNumber at)) → (length text ≤ most_list_text) × NumberOver text at × SoundBelow text at
    there e = let r = refused_lowest text (ListNumber at) (λ c. omega (arith, ap list_number c)) e in (r.0, r.1.0, r.1.2)

    back : (length text ≤ most_list_text) × NumberOver text at × SoundBelow text at → list_answer text ≡ Err (OfList (ListNumber at))
    back (short, over, sound) =
        ⊎_elim
        (λ (shape : RefusedFor text (ListShape at)). absurd (shape.1.1 over.value over.stands))
        (⊎_elim (λ (number : RefusedFor text (ListNumber at)). number.0) (λ (range : RefusedFor text (ListRange at)). absurd (over_falls text at sound over range.1.0)))
        (refused_there text at short (inr (inl over)) sound)

pub fall_refused_exactly : FallRefusedExactly
unfolding Lowest
fall_refused_exactly text at = (there, back)
  where
    there : list_answer text ≡ Err (OfList (ListRange at)) → (length text ≤ most_list_text) × RangeFalls text at × SoundBelow text at
    there e = let r = refused_lowest text (ListRange at) (λ c. omega (arith, ap list_number c)) e in (r.0, r.1.0, r.1.2)

    back : (length text ≤ most_list_text) × RangeFalls text at × SoundBelow text at → list_answer text ≡ Err (OfList (ListRange at))
    back (short, falls, sound) =
        ⊎_elim
        (λ (shape : RefusedFor text (ListShape at)). absurd (shape.1.1 falls.last falls.follows))
        (⊎_elim (λ (number : RefusedFor text (ListNumber at)). absurd (over_falls text at sound number.1.0 falls)) (λ (range : RefusedFor text (ListRange at)). range.0))
        (refused_there text at short (inr (inr falls)) sound)
