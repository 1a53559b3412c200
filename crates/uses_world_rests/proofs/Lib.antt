mod Round
