mod LevelsLemmas
mod TextsLemmas
