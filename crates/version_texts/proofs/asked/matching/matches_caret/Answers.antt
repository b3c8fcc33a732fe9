use Rattle.version_texts.proofs.lemmas.{versioning_ref.VersioningRef.shape_fits}
use Rattle.version_texts.proofs.lemmas.Matching.{match_of_general, caret_of_strict}
use Rattle.version_texts.proofs.lemmas.Matching.{chain}
use Rattle.version_texts.proofs.asked.matching.matches_caret.Goals as goal

pub body_parts-requires : goal.body_parts-requires
body_parts-requires c = shape_fits _ _ c.requires.wanted_is

pub body_parts-requires-in-Ideal-Ideal : goal.body_parts-requires-in-Ideal-Ideal
body_parts-requires-in-Ideal-Ideal c = shape_fits _ _ c.requires.text_is

pub general_match_caret-requires-clause-wanted_fits :
    goal.general_match_caret-requires-clause-wanted_fits
general_match_caret-requires-clause-wanted_fits c = shape_fits _ _ c.requires.wanted_is

pub general_match_caret-requires-clause-text_fits :
    goal.general_match_caret-requires-clause-text_fits
general_match_caret-requires-clause-text_fits c = shape_fits _ _ c.requires.text_is

pub returns-in-Ideal-Ideal : goal.returns-in-Ideal-Ideal
returns-in-Ideal-Ideal c w v wanted_is text_is =
    caret_of_strict c.args.wanted.now c.args.text.now c.args.wanted_shape c.args.shape
    c.requires.wanted_is c.requires.text_is w v wanted_is text_is c.in-Ideal-Ideal.is-0
    c.in-Ideal-Ideal.is-1
    _ _ c.body_parts.ensures
    c.body_parts-in-Ideal-Ideal.ensures c.numbers_match_caret.result
    c.numbers_match_caret.ensures

pub returns-in-General-General : goal.returns-in-General-General
returns-in-General-General c w v wanted_is text_is =
    let both = match_of_general c.args.wanted.now c.args.text.now c.args.wanted_shape c.args.shape
    c.requires.wanted_is c.requires.text_is w v wanted_is text_is c.in-General-General.is-0
    c.in-General-General.is-1 in
    chain c.general_match_caret.ensures both.1
